use Rattle.std.proofs.Common.{ap, ◌∙◌, fold}
use Rattle.left_right.specs.Sides.{view}
use Rattle.query.specs.Rule.{absorbed}
use Rattle.query.proofs.Keeping.{begins, told_of}
use Rattle.query.proofs.opening.begun.Goals as goal

pub publish_as-writer-requires : goal.publish_as-writer-requires
publish_as-writer-requires g c next is =
    let shown = c.args.writer.desk.shown.value in
    begins _ _ shown next c.requires.empty (is ∙ ap (λ es. fold absorbed shown es) c.requires.none)

pub returns-in-Ok-clause-told : goal.returns-in-Ok-clause-told
returns-in-Ok-clause-told g c =
    let shown = c.args.writer.desk.shown.value in
    let begun = c.publish_as-writer.result.0 in
    let rule = rw c.in-Ok.is at c.publish_as-writer.ensures.rule in
    let values = rw c.in-Ok.is at c.publish_as-writer.ensures.values in
    told_of (view begun.desk.place) begun.desk.shown.value shown.world shown.front rule (values.0 ∙ ap (λ es. fold absorbed shown es) c.requires.none)
