use Rattle.task_desk.proofs.Readiness.{some_ready}
use Rattle.task_desk.proofs.Reaching.{reached-desk, reached-length}
use Rattle.task_desk.proofs.laws.no_call_strands_a_task.Goals as goal

pub returns : goal.returns
returns c = record {
  count = reached-length;
  desk = reached-desk;
  ready = λ n tasks reached. some_ready tasks (reached-desk n tasks reached);
}
