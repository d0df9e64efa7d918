use Rattle.std.proofs.Common.{◌≡◌, ◌<◌, ◌+◌, not, cond, List, length, sym, ap, subst, ◌∙◌, arith}
use Rattle.std.specs.Prelude.{slice_set}
use Rattle.task_desk.specs.declared.status.Status.{Status}
use Rattle.task_desk.specs.Status.{is_out, is_done, status_at}
use Rattle.task_desk.specs.Counted.{IsCounted}
use Rattle.task_desk.proofs.Counting.{counted-set}
use Rattle.task_desk.proofs.statuses.Statuses.set.Goals as goal

pub invariant_of-self : goal.invariant_of-self
invariant_of-self c =
    let tasks = c.self.inside.list in
    let lt : c.args.task < length tasks = omega (arith, c.requires.task, ap (λ (ts : List Status). length ts) c.self.view_is) in
    let old : c.args.was ≡ status_at tasks c.args.task = c.requires.was ∙ ap (λ (ts : List Status). status_at ts c.args.task) (sym c.self.view_is) in
    let was_out : c.is_out.result ≡ is_out (status_at tasks c.args.task) = c.is_out.ensures ∙ ap is_out old in
    let was_done : c.is_done.result ≡ is_done (status_at tasks c.args.task) = c.is_done.ensures ∙ ap is_done old in
    subst (λ (ts : List Status). IsCounted ts c.change.new.self c.recounted-self-inside.result c.recounted-self-inside-2.result) (sym c.set.ensures)
    (counted-set tasks c.args.task c.args.is c.self.inside.unhanded c.change.new.self c.self.inside.out c.self.inside.undone c.recounted-self-inside.result c.recounted-self-inside-2.result
    c.self.invariant lt
    (c.change.ensures ∙ ap (λ b. slice_set c.self.inside.unhanded c.args.task b) c.is_unhanded-2.ensures)
    (ap (λ b. c.recounted-self-inside.result + cond b 1 0) (sym was_out) ∙ c.recounted-self-inside.ensures ∙ ap (λ b. c.self.inside.out + cond b 1 0) c.is_out-2.ensures)
    (ap (λ b. c.recounted-self-inside-2.result + cond (not b) 1 0) (sym was_done) ∙ c.recounted-self-inside-2.ensures ∙ ap (λ b. c.self.inside.undone + cond (not b) 1 0) c.is_done-2.ensures))
