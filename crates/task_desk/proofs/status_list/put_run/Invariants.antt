use Rattle.std.proofs.Common.{◌≡◌, ◌-◌, ◌≤◌, length}
use Rattle.task_desk.specs.Runs.{with_run}
use Rattle.task_desk.proofs.status_list.put_run.Given as goal

abbrev pub invariant-loop-task : goal.invariant-loop-task
invariant-loop-task l = record {
  end : l.fn.run.end ≤ length l.codes;
  on_the_way : with_run l.code l.codes l.task (l.fn.run.end - l.task) ≡ with_run l.code l.fn.codes l.fn.run.from (l.fn.run.end - l.fn.run.from);
}
