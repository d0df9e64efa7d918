use Rattle.std.proofs.Common.{◌≡◌, true, refl, List, ℕ, sym, ap, subst, ◌∙◌}
use Rattle.task_desk.specs.declared.status.Status.{Status}
use Rattle.task_desk.specs.Status.{is_out, status_at}
use Rattle.task_desk.specs.Desk.{with_done, IsDesk}
use Rattle.task_desk.specs.Waiting.{list_at, with_ready, AreWaiting}
use Rattle.task_desk.proofs.StatusAt.{inside}
use Rattle.task_desk.proofs.Keeping.{with_done-desk}
use Rattle.task_desk.proofs.Parking.{done-wakes, done-waiting}
use Rattle.task_desk.proofs.desk.Desk.done.Goals as goal

pub invariant_of-self : goal.invariant_of-self
invariant_of-self c =
    let tasks = c.self.inside.statuses in
    let out : is_out (status_at tasks c.args.task) ≡ true = ap is_out (sym c.at-was.ensures) ∙ sym c.is_out.ensures ∙ c.if-not-is_out.false in
    let woken : c.wake.new.statuses ≡ with_done tasks c.args.task =
    c.wake.ensures ∙ ap (λ (ts : List ℕ). with_ready ts c.set.new.self) c.on.ensures ∙ ap (with_ready (list_at c.self.inside.waits c.args.task)) c.set.ensures
    ∙ done-wakes tasks c.self.inside.waits c.args.task c.self.invariant.1 out in (
      subst IsDesk (sym woken) (with_done-desk tasks c.args.task c.self.invariant.0 (inside is_out tasks c.args.task refl out)),
      subst (λ (ts : List Status). AreWaiting ts c.clear.new.self) (sym woken) (subst (AreWaiting _) (sym c.clear.ensures) (done-waiting tasks c.self.inside.waits c.args.task c.self.invariant.1 out)),
    )

pub returns-clause-new : goal.returns-clause-new
returns-clause-new c =
    let tasks = c.self.inside.statuses in
    let out : is_out (status_at tasks c.args.task) ≡ true = ap is_out (sym c.at-was.ensures) ∙ sym c.is_out.ensures ∙ c.if-not-is_out.false in
    c.wake.ensures ∙ ap (λ (ts : List ℕ). with_ready ts c.set.new.self) c.on.ensures ∙ ap (with_ready (list_at c.self.inside.waits c.args.task)) c.set.ensures
    ∙ done-wakes tasks c.self.inside.waits c.args.task c.self.invariant.1 out ∙ ap (λ (ts : List Status). with_done ts c.args.task) c.self.view_is
