use Rattle.task_desk.proofs.Reaching.{reached-taken-run, reached-done-run}
use Rattle.task_desk.proofs.laws.a_run_is_its_tasks.Goals as goal

pub returns : goal.returns
returns c = record {
  taken = reached-taken-run;
  done = reached-done-run;
}
