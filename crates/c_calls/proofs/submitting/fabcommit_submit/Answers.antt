use Rattle.std.proofs.Common.{rules, ◌≡◌, subst}
use Rattle.c_handle.specs.declared.kept.Kept.{Kept}
use Rattle.key_book.specs.Book.{accepts}
use Rattle.c_calls.specs.Submitted.{SubmittedUnlessShared}
use Rattle.c_calls.proofs.submitting.fabcommit_submit.Goals as goal

pub returns-clause-submitted : goal.returns-clause-submitted
returns-clause-submitted c old e =
    let same : c.deref_mut.result.now ≡ old = search rules in (
      c.submit-code.new.kept,
      search rules,
      subst (λ (o : Kept). SubmittedUnlessShared (accepts o.keys) o c.args.block.now c.submit-code.new.kept c.args.receipt.now c.submit-code.new.receipt c.submit-code.result) same c.submit-code.ensures,
    )
