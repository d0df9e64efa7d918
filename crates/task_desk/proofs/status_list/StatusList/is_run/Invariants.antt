use Rattle.std.proofs.Common.{◌≡◌, ℕ, ◌<◌, ◌≤◌}
use Rattle.task_desk.specs.Status.{status_at}
use Rattle.task_desk.proofs.status_list.StatusList.is_run.Given as goal

abbrev pub invariant-loop-task : goal.invariant-loop-task
invariant-loop-task l = (t : ℕ) → l.fn.run.from ≤ t → t < l.task → status_at l.self t ≡ l.fn.is
