use Rattle.std.proofs.Common.{length, map, inl, inr, ⊎_elim, sym, ap, ◌∙◌, arith}
use Rattle.std.specs.Iterator.Adapters.{zip_second}
use Rattle.std.specs.Slice.Iter.{iter_rest}
use Rattle.std.specs.Vec.Iter.{into_iter_items}
use Rattle.std.proofs.lemmas.List.{length-map}
use Rattle.candidates.specs.Seen.{seen}
use Rattle.intake.proofs.Places.{none_left, few_marked}
use Rattle.intake.proofs.placing.marked.Goals as goal

pub returns-clause-marked : goal.returns-clause-marked
returns-clause-marked c =
    let it = c.loop-candidate.candidate-iterator in
    sym (c.loop-candidate.invariant ∙ none_left (map seen c.loop-candidate.all.items) (map seen (into_iter_items it.a)) (iter_rest (zip_second it))
    (⊎_elim (λ h. inl (length-map (into_iter_items it.a) seen ∙ sym it.a.rest.ok.0 ∙ h.1.0)) (λ h. inr h.1.0) c.in-None.ensures.steps))

pub returns-clause-few : goal.returns-clause-few
returns-clause-few c =
    let all = c.loop-candidate.all.items in
    let cs = c.args.candidates.items in
    omega (arith, sym (length-map all seen) ∙ ap length (returns-clause-marked c), few_marked (map seen cs) c.args.used.now, length-map cs seen)
