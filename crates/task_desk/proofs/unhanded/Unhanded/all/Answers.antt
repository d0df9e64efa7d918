use Rattle.task_desk.proofs.Fresh.{all-fresh}
use Rattle.task_desk.proofs.unhanded.Unhanded.all.Goals as goal

pub returns : goal.returns
returns c = all-fresh c.in_ok-others.others c.args.count c.in_ok-others.ensures
