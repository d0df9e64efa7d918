use Rattle.task_desk.specs.Unhanded.{IsRunPut}
use Rattle.task_desk.proofs.unhanded.put_run.Given as goal

abbrev pub invariant-loop-task : goal.invariant-loop-task
invariant-loop-task l = IsRunPut l.fn.tasks l.fn.from l.task l.tasks
