use Rattle.std.proofs.Common.{ap}
use Rattle.policy_eval.proofs.Relation.{decided, value_of}
use Rattle.reasons.specs.Shortfall.{wide_last}
use Rattle.reasons_from_state.proofs.missing.would_do_in_another_order.Goals as goal

pub returns : goal.returns
returns c =
    let policy = wide_last c.args.policy.now in
    let signers = c.args.signers.now in
    let after = c.holds_wide_last.new.used in
    value_of policy signers after c.holds_wide_last.result
    (decided policy (wide_last c.root.result.now) signers c.as_slice-identities.result.now after c.holds_wide_last.result (ap wide_last c.root.ensures.tree) c.as_slice-identities.ensures.value c.as_slice-identities.ensures.bound c.holds_wide_last.ensures)
