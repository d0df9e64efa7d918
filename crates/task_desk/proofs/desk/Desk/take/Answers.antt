use Rattle.std.proofs.Common.{◌≡◌, true, false, List, refl, sym, subst, ap, ◌∙◌}
use Rattle.task_desk.specs.declared.status.Status.{Status}
use Rattle.task_desk.specs.declared.status.Status.TheVariants.{Out}
use Rattle.task_desk.specs.Status.{is_ready, status_at}
use Rattle.task_desk.specs.Desk.{IsDesk}
use Rattle.task_desk.specs.Waiting.{AreWaiting}
use Rattle.task_desk.proofs.Keeping.{taken-desk}
use Rattle.task_desk.proofs.Parking.{ready-waiting}
use Rattle.task_desk.proofs.Readiness.{some_ready}
use Rattle.task_desk.proofs.desk.Desk.take.Goals as goal

pub returns-in_default-clause-never_stuck : goal.returns-in_default-clause-never_stuck
returns-in_default-clause-never_stuck c = λ not_all out.
    let ready = some_ready c.args.self.now (subst IsDesk c.self.view_is c.self.invariant.0) not_all out in
    absurd (let wrong : true ≡ false = sym ready.1 ∙ ap (λ (tasks : List Status). is_ready (status_at tasks ready.0)) (sym c.self.view_is) ∙ c.in_default.ensures ready.0 in cc)

pub invariant_of-self : goal.invariant_of-self
invariant_of-self c =
    let tasks = c.self.inside.statuses in (
      subst IsDesk (sym c.set.ensures) (taken-desk tasks c.in-Some.task c.self.invariant.0 c.in-Some.ensures),
      subst (λ (ts : List Status). AreWaiting ts c.self.inside.waits) (sym c.set.ensures) (ready-waiting tasks c.self.inside.waits c.in-Some.task Out c.self.invariant.1 c.in-Some.ensures (λ h. refl)),
    )
