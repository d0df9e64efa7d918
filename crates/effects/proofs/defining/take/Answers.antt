use Rattle.std.proofs.lemmas.Result.{IfOk-weaker}
use Rattle.effects.proofs.Definitions.{given-next}
use Rattle.effects.proofs.defining.take.Goals as goal

pub returns : goal.returns
returns c =
    IfOk-weaker c.add_definition.result _ _
    (λ _ more. given-next c.args.job.now c.args.i c.args.definitions.now.items c.add_definition.new.definitions.items _ c.args.flag c.candidate.ensures.value c.requires.flag more)
    c.add_definition.ensures
