use Rattle.std.proofs.Common.{rules, ◌≡◌, subst}
use Rattle.c_handle.specs.declared.kept.Kept.{Kept}
use Rattle.verdicts.specs.Said.{accepted_by}
use Rattle.c_calls.specs.Submitted.{SubmittedUnlessShared}
use Rattle.c_calls.proofs.submitting.fabcommit_submit_by.Goals as goal

pub returns-clause-submitted : goal.returns-clause-submitted
returns-clause-submitted c old e =
    let same : c.deref_mut.result.now ≡ old = search rules in (
      c.submit_by-code.new.kept,
      search rules,
      subst (λ (o : Kept). SubmittedUnlessShared (accepted_by c.args.pool.now c.args.verdicts.now) o c.args.block.now c.submit_by-code.new.kept c.args.receipt.now c.submit_by-code.new.receipt c.submit_by-code.result) same c.submit_by-code.ensures,
    )
