use Rattle.std.proofs.Common.{ap, ◌∙◌, map}
use Rattle.task_desk.specs.Codes.{status_of}
use Rattle.task_desk.proofs.Counting.{map-replicate}
use Rattle.task_desk.proofs.status_list.StatusList.all_ready.Goals as goal

pub returns : goal.returns
returns c = ap (map status_of) c.in_ok-codes.ensures ∙ map-replicate status_of c.args.count 0
