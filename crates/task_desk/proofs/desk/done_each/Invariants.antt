use Rattle.std.proofs.Common.{◌≡◌, ◌-◌}
use Rattle.task_desk.specs.Runs.{with_run_done}
use Rattle.task_desk.proofs.desk.done_each.Given as goal

abbrev pub invariant-loop-task : goal.invariant-loop-task
invariant-loop-task l = with_run_done l.desk l.task (l.fn.run.end - l.task) ≡ with_run_done l.fn.desk l.fn.run.from (l.fn.run.end - l.fn.run.from)
