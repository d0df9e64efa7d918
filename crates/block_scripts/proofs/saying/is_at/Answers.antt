use Rattle.std.proofs.Common.{Some, sym, ap, ◌∙◌}
use Rattle.std.proofs.lemmas.Option.{slice_get-get_or}
use Rattle.std.proofs.lemmas.Slice.Eq.{bytes_eq-Decides}
use Rattle.block_scripts.proofs.saying.is_at.Goals as goal

pub returns-in-Some : goal.returns-in-Some
returns-in-Some c = λ same.
    let looked = c.in-Some.ensures.lookup.3 in
    let one = (bytes_eq-Decides c.as_slice.result.now c.as_slice-in-Some.result.now).0 (sym c.eq.ensures ∙ same) in
    slice_get-get_or c.args.txs.now c.args.index c.in-Some.tx.now looked.0 ∙ ap Some (sym (looked.1 c.in-Some.tx.now) ∙ sym c.as_slice.ensures ∙ one ∙ c.as_slice-in-Some.ensures)
