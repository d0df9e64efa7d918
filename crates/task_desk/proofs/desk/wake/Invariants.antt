use Rattle.std.proofs.Common.{◌≡◌, length}
use Rattle.task_desk.specs.Waiting.{with_ready}
use Rattle.task_desk.specs.Links.{AreBelow}
use Rattle.task_desk.proofs.desk.wake.Given as goal

abbrev pub invariant-loop-task : goal.invariant-loop-task
invariant-loop-task l = record {
  below : AreBelow l.task-iterator (length l.statuses);
  on_the_way : with_ready l.task-iterator l.statuses ≡ with_ready l.fn.waiting l.fn.statuses;
}
