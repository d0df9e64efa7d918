use Rattle.std.proofs.Common.{ℕ, ◌-◌, length, sym, subst}
use Rattle.task_desk.specs.Waiting.{chain}
use Rattle.task_desk.specs.Links.{AreBelow}
use Rattle.task_desk.proofs.Linking.{first-below, rest-below}
use Rattle.task_desk.proofs.wait_lists.WaitingIterator.next.Goals as goal

pub bounds-self-inside-task : goal.bounds-self-inside-task
bounds-self-inside-task c = first-below c.self.inside.next.now c.self.inside.first c.self.inside.count c.if-self-eq0.false c.self.invariant

pub invariant_of-self : goal.invariant_of-self
invariant_of-self c =
    let next = c.self.inside.next.now in
    subst (λ (t : ℕ). AreBelow (chain next t (c.self.inside.count - 1)) (length next)) (sym c.from-self-inside.ensures)
    (rest-below next c.self.inside.first c.self.inside.count c.if-self-eq0.false c.self.invariant)
