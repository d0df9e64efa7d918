use Rattle.std.proofs.Common.{◌≡◌, true, false, refl, List, sym, ap, subst, ◌∙◌}
use Rattle.task_desk.specs.declared.status.Status.{Status}
use Rattle.task_desk.specs.declared.status.Status.TheVariants.{Ready}
use Rattle.task_desk.specs.Status.{is_out, is_done, status_at}
use Rattle.task_desk.specs.Desk.{IsDesk}
use Rattle.task_desk.specs.Waiting.{AreWaiting}
use Rattle.task_desk.proofs.StatusAt.{inside}
use Rattle.task_desk.proofs.Keeping.{readied-desk, parked-desk}
use Rattle.task_desk.proofs.Parking.{list-fits, out-waiting, out-parks}
use Rattle.task_desk.proofs.desk.Desk.park.Goals as goal

pub push-requires-clause-room : goal.push-requires-clause-room
push-requires-clause-room c = list-fits c.self.inside.statuses c.self.inside.waits c.args.h c.self.invariant.1

pub invariant_of-self-else-is_done : goal.invariant_of-self-else-is_done
invariant_of-self-else-is_done c =
    let tasks = c.self.inside.statuses in
    let out : is_out (status_at tasks c.args.task) ≡ true = ap is_out (sym c.at-was.ensures) ∙ sym c.is_out.ensures ∙ c.if-not-is_out.false in
    let alive : is_done (status_at tasks c.args.h) ≡ false = sym (c.is_done.ensures ∙ ap is_done c.at.ensures) ∙ c.if-is_done.false in (
      subst IsDesk (sym c.set-else-is_done.ensures) (parked-desk tasks c.args.task c.args.h c.self.invariant.0 (inside is_out tasks c.args.task refl out) c.if-h-task.false alive),
      subst (λ (ts : List Status). AreWaiting ts c.push.new.self) (sym c.set-else-is_done.ensures)
          (subst (AreWaiting _) (sym c.push.ensures) (out-parks tasks c.self.inside.waits c.args.task c.args.h c.self.invariant.1 out c.if-h-task.false)),
    )

pub invariant_of-self : goal.invariant_of-self
invariant_of-self c =
    let tasks = c.self.inside.statuses in
    let out : is_out (status_at tasks c.args.task) ≡ true = ap is_out (sym c.at-was.ensures) ∙ sym c.is_out.ensures ∙ c.if-not-is_out.false in (
      subst IsDesk (sym c.set.ensures) (readied-desk tasks c.args.task c.self.invariant.0 (inside is_out tasks c.args.task refl out)),
      subst (λ (ts : List Status). AreWaiting ts c.self.inside.waits) (sym c.set.ensures) (out-waiting tasks c.self.inside.waits c.args.task Ready c.self.invariant.1 out (λ h. refl)),
    )
