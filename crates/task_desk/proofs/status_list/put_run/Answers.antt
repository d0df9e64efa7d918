use Rattle.std.proofs.Common.{◌≤◌, ℕ, sym, subst, ◌∙◌}
use Rattle.std.proofs.lemmas.List.{length-set}
use Rattle.task_desk.proofs.InRuns.{run-step}
use Rattle.task_desk.proofs.status_list.put_run.Goals as goal

pub loop-task-preserved : goal.loop-task-preserved
loop-task-preserved c = record {
  end = subst (λ (n : ℕ). c.args.run.end ≤ n) (sym (length-set c.loop-task.codes c.loop-task.task c.args.code)) c.loop-task.invariant.end;
  on_the_way = sym (run-step c.args.code c.loop-task.codes c.loop-task.task c.args.run.end c.loop-task-test.true) ∙ c.loop-task.invariant.on_the_way;
}
