use Rattle.std.proofs.Common.{◌≡◌, ◌∷◌, ◌++◌, ◌∙◌, map, Ok, Err, ap, sym}
use Rattle.std.proofs.lemmas.Result.{err_from_is_err_and}
use Rattle.std.specs.Vec.Iter.{into_iter_items}
use Rattle.command_line.proofs.FilesRead.{first_at, one_more}
use Rattle.command_line.proofs.reading.all_found.Goals as goal

pub loop-one-preserved : goal.loop-one-preserved
loop-one-preserved c =
    one_more c.loop-one.all.items c.push.new.self.items c.in_ok-one.field-0 c.in-Some.one (into_iter_items c.loop-one.one-iterator) (into_iter_items c.next.new.self) c.args.found.items
    c.in-Some.ensures.steps.0 c.in_ok-one.was c.in_ok-push.ensures.items c.loop-one.invariant

pub returns-in_err-one-clause-err : goal.returns-in_err-one-clause-err
returns-in_err-one-clause-err c =
    let p = err_from_is_err_and c.from_residual-in_err-one.result c.from_residual-in_err-one.ensures.1 in
    let fault = c.in_err-one.field-0.0 in
    let left : into_iter_items c.loop-one.one-iterator ≡ Err fault ∷ into_iter_items c.next.new.self = c.in-Some.ensures.steps.0 ∙ ap (λ one. one ∷ into_iter_items c.next.new.self) c.in_err-one.was in
    rw (p.1, p.2) (first_at c.loop-one.all.items fault (into_iter_items c.next.new.self) c.args.found.items (ap (λ l. map Ok c.loop-one.all.items ++ l) (sym left) ∙ c.loop-one.invariant))
