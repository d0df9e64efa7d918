use Rattle.std.proofs.Common.{◌<◌, ℕ, List, length, sym, ap, subst, ◌∙◌}
use Rattle.std.proofs.lemmas.List.{length-set}
use Rattle.task_desk.specs.declared.status.Status.{Status}
use Rattle.task_desk.specs.declared.status.Status.TheVariants.{Ready}
use Rattle.task_desk.specs.Waiting.{has, with_ready}
use Rattle.task_desk.proofs.Linking.{has-first, has-rest}
use Rattle.task_desk.proofs.desk.wake.Goals as goal

pub set-requires : goal.set-requires
set-requires c = record {
  task = c.loop-task.invariant.below c.in-Some.task (ap (λ (ts : List ℕ). has ts c.in-Some.task) c.in-Some.ensures.steps ∙ has-first c.in-Some.task c.next.new.self);
  was = c.at-was.ensures;
  code = tt;
}

pub loop-task-preserved : goal.loop-task-preserved
loop-task-preserved c = record {
  below = λ t is.
      subst (λ (n : ℕ). t < n) (sym (ap (λ (ts : List Status). length ts) c.set.ensures ∙ length-set c.loop-task.statuses c.in-Some.task Ready))
      (c.loop-task.invariant.below t (ap (λ (ts : List ℕ). has ts t) c.in-Some.ensures.steps ∙ has-rest c.in-Some.task t c.next.new.self is));
  on_the_way =
      ap (with_ready c.next.new.self) c.set.ensures ∙ sym (ap (λ (ts : List ℕ). with_ready ts c.loop-task.statuses) c.in-Some.ensures.steps) ∙ c.loop-task.invariant.on_the_way;
}
