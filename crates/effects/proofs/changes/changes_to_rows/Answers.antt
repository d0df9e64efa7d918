use Rattle.std.proofs.Common.{inl, inr, ⊎_elim, sym, ap, ◌++◌, append-nil, ◌∙◌}
use Rattle.std.specs.Iterator.Adapters.{zip_second}
use Rattle.std.specs.Slice.Iter.{iter_rest}
use Rattle.std.specs.Vec.Iter.{into_iter_items}
use Rattle.rules.specs.Delta.{changes_in}
use Rattle.effects.proofs.Kept.{no_change_left}
use Rattle.effects.proofs.changes.changes_to_rows.Goals as goal

pub returns : goal.returns
returns c =
    let it = c.loop-row.row-iterator in
    sym (
    c.loop-row.invariant
    ∙ ap (λ l. changes_in c.loop-row.changes.items ++ l) (no_change_left (iter_rest (zip_second it)) (into_iter_items it.a) (⊎_elim (λ h. inl (sym it.a.rest.ok.0 ∙ h.1.0)) (λ h. inr h.1.0) c.in-None.ensures.steps))
    ∙ append-nil (changes_in c.loop-row.changes.items))
