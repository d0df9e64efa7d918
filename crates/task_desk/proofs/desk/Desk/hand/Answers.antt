use Rattle.std.proofs.Common.{List, refl, sym, subst}
use Rattle.task_desk.specs.declared.status.Status.{Status}
use Rattle.task_desk.specs.declared.status.Status.TheVariants.{Handed}
use Rattle.task_desk.specs.Desk.{IsDesk}
use Rattle.task_desk.specs.Waiting.{AreWaiting}
use Rattle.task_desk.proofs.Keeping.{handed-desk}
use Rattle.task_desk.proofs.Parking.{unhanded-waiting}
use Rattle.task_desk.proofs.desk.Desk.hand.Goals as goal

pub invariant_of-self : goal.invariant_of-self
invariant_of-self c =
    let tasks = c.self.inside.statuses in (
      subst IsDesk (sym c.set.ensures) (handed-desk tasks c.in-Some.task c.self.invariant.0 c.in-Some.ensures.unhanded),
      subst (λ (ts : List Status). AreWaiting ts c.self.inside.waits) (sym c.set.ensures) (unhanded-waiting tasks c.self.inside.waits c.in-Some.task Handed c.self.invariant.1 c.in-Some.ensures.unhanded (λ h. refl)),
    )
