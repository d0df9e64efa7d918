use Rattle.std.proofs.Common.{◌-◌, List, sym, subst, arith}
use Rattle.task_desk.specs.declared.status.Status.{Status}
use Rattle.task_desk.specs.Desk.{IsDesk}
use Rattle.task_desk.specs.Waiting.{AreWaiting}
use Rattle.task_desk.proofs.RunCalls.{taken-run}
use Rattle.task_desk.proofs.desk.Desk.take_run.Goals as goal

pub invariant_of-self : goal.invariant_of-self
invariant_of-self c =
    let from = c.take_run.result.from in
    let end = c.take_run.result.end in
    let run = c.take_run.ensures.run in
    let order = run.order in
    let kept = taken-run c.self.inside.statuses c.self.inside.waits from (end - from) c.self.invariant.0 c.self.invariant.1 (λ t le lt. run.unhanded t le (omega (arith, lt, order))) in (
      subst IsDesk (sym c.take_run.ensures.new) kept.0,
      subst (λ (ts : List Status). AreWaiting ts c.self.inside.waits) (sym c.take_run.ensures.new) kept.1,
    )
