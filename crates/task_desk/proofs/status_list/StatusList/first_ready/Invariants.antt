use Rattle.std.proofs.Common.{◌≡◌, ℕ, ◌<◌, false}
use Rattle.task_desk.specs.Status.{is_ready, status_at}
use Rattle.task_desk.proofs.status_list.StatusList.first_ready.Given as goal

abbrev pub invariant-loop-task : goal.invariant-loop-task
invariant-loop-task l = (t : ℕ) → t < l.task → is_ready (status_at l.self t) ≡ false
