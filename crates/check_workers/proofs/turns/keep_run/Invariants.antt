use Rattle.std.proofs.Common.{◌+◌, ◌<◌, ◌≤◌, All}
use Rattle.arrayvec.specs.ArrayVec.{array_vec_len}
use Rattle.check_workers.proofs.turns.keep_run.Given as goal

abbrev pub invariant-loop-task : goal.invariant-loop-task
invariant-loop-task g l = (array_vec_len l.kept + l.fn.run.from ≤ l.task) × All (λ task. task < g.J.Tasks.tasks) l.kept.items
