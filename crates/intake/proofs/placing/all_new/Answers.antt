use Rattle.std.proofs.Common.{sym, ◌∙◌}
use Rattle.std.specs.Vec.Iter.{into_iter_items}
use Rattle.intake.proofs.Places.{all_tentative}
use Rattle.intake.proofs.placing.all_new.Goals as goal

pub returns : goal.returns
returns c =
    let here = c.loop-place in
    all_tentative c.args.alone c.args.taken.items (into_iter_items here.place-iterator) here.ids.items here.candidates.items c.requires here.invariant.ids here.invariant.candidates
    (sym here.place-iterator.rest.ok.0 ∙ c.in-None.ensures.steps.0)
