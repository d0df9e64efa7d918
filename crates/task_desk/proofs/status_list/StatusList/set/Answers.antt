use Rattle.std.proofs.Common.{◌∙◌}
use Rattle.std.specs.Prelude.{slice_set}
use Rattle.std.proofs.lemmas.List.{map-set}
use Rattle.task_desk.specs.Codes.{status_of}
use Rattle.task_desk.proofs.status_list.StatusList.set.Goals as goal

pub returns : goal.returns
returns c =
    let codes = c.self.inside.codes.items in
    map-set status_of codes c.args.task c.code_of.result
    ∙ (λ k. slice_set (c.self.view_is k) c.args.task (c.code_of.ensures k))
