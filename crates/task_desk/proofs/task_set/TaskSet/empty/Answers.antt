use Rattle.std.proofs.Common.{arith}
use Rattle.task_desk.proofs.Grouping.{empty-indexed}
use Rattle.task_desk.proofs.task_set.TaskSet.empty.Goals as goal

pub invariant_of-result : goal.invariant_of-result
invariant_of-result c = empty-indexed c.in_ok-members.members c.in_ok-filled.filled c.args.count c.div_ceil.result c.in_ok-members.ensures c.in_ok-filled.ensures c.requires (omega (arith, c.div_ceil.ensures)) (omega (arith, c.div_ceil.ensures))
