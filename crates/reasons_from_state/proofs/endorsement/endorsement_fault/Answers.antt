use Rattle.std.proofs.Common.{List, not, find, sym, ap, ◌∙◌}
use Rattle.rules.specs.State.{StateKey}
use Rattle.rules.specs.Fold.{running}
use Rattle.rules.specs.Endorsement.{may_write}
use Rattle.reasons_from_state.proofs.endorsement.endorsement_fault.Goals as goal

pub key_fault-requires-clause-first : goal.key_fault-requires-clause-first
key_fault-requires-clause-first c =
    let j = c.args.at.now.job.now in
    ap (λ (ks : List StateKey). find (λ k. not (may_write j.definitions j.state (running j c.args.at.now.i).touched c.args.open_tx.now.signers k)) ks) (sym (c.as_slice.ensures.value ∙ c.in_ok-keys.ensures)) ∙ c.in-Some.ensures.0

pub chaincode_fault-requires : goal.chaincode_fault-requires
chaincode_fault-requires c =
    let j = c.args.at.now.job.now in
    ap (λ (ks : List StateKey). find (λ k. not (may_write j.definitions j.state (running j c.args.at.now.i).touched c.args.open_tx.now.signers k)) ks) (sym (c.as_slice.ensures.value ∙ c.in_ok-keys.ensures)) ∙ c.in-None.ensures
