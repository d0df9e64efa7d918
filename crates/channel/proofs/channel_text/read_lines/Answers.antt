use Rattle.std.proofs.Common.{Result, ap, sym, ◌∙◌, subst}
use Rattle.std.proofs.lemmas.Result.{err_from_is_err_and}
use Rattle.channel.specs.Fault.{Fault, Refuses}
use Rattle.channel.specs.Text.{SoFar, said_from}
use Rattle.channel.proofs.Refusals.{refused_next}
use Rattle.channel.proofs.channel_text.read_lines.Goals as goal

pub returns-in_err-so_far-clause-err : goal.returns-in_err-so_far-clause-err
returns-in_err-so_far-clause-err c =
    let p = err_from_is_err_and c.from_residual.result c.from_residual.ensures.1 in
    let so_far = c.loop-statement.so_far in
    let e = c.in_err-so_far.field-0.0 in
    let line = refused_next (λ next. said_from next c.next.new.self) e _ c.in_err-so_far.ensures.err in
    rw (p.1, p.2) (subst (λ (r : Result SoFar Fault). Refuses e r) (sym (ap (said_from so_far) c.in-Some.ensures.steps) ∙ c.loop-statement.invariant) line)
