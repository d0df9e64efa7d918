use Rattle.std.proofs.Common.{◌≡◌, List, true, refl, sym, ap, subst, ◌∙◌}
use Rattle.task_desk.specs.declared.status.Status.{Status}
use Rattle.task_desk.specs.declared.status.Status.TheVariants.{Out}
use Rattle.task_desk.specs.Status.{is_ready, status_at}
use Rattle.task_desk.specs.Desk.{IsDesk}
use Rattle.task_desk.specs.Waiting.{AreWaiting}
use Rattle.task_desk.proofs.Keeping.{taken-desk}
use Rattle.task_desk.proofs.Parking.{ready-waiting}
use Rattle.task_desk.proofs.desk.Desk.start.Goals as goal

pub invariant_of-self : goal.invariant_of-self
invariant_of-self c =
    let tasks = c.self.inside.statuses in
    let ready : is_ready (status_at tasks c.args.task) ≡ true = ap is_ready (sym c.at-was.ensures) ∙ sym c.is_ready.ensures ∙ c.if-not-is_ready.false in (
      subst IsDesk (sym c.set.ensures) (taken-desk tasks c.args.task c.self.invariant.0 ready),
      subst (λ (ts : List Status). AreWaiting ts c.self.inside.waits) (sym c.set.ensures) (ready-waiting tasks c.self.inside.waits c.args.task Out c.self.invariant.1 ready (λ h. refl)),
    )
