use Rattle.task_desk.proofs.Readiness.{some_ready}
use Rattle.task_desk.proofs.laws.some_task_is_ready.Goals as goal

pub returns : goal.returns
returns c = some_ready
