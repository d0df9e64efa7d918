use Rattle.task_desk.proofs.Counting.{counted-new}
use Rattle.task_desk.proofs.statuses.Statuses.new.Goals as goal

pub invariant_of-result : goal.invariant_of-result
invariant_of-result c = counted-new c.args.count c.in_ok-list.list c.in_ok-unhanded.unhanded c.requires c.in_ok-list.ensures c.in_ok-unhanded.ensures
