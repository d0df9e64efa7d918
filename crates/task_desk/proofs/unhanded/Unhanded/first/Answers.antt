use Rattle.std.proofs.Common.{List, Bool, ap, sym, subst, ◌∙◌}
use Rattle.task_desk.specs.Bits.{IsLeast}
use Rattle.task_desk.specs.Groups.{is_member}
use Rattle.task_desk.proofs.Fresh.{least-other, least-fresh, none-left}
use Rattle.task_desk.proofs.unhanded.Unhanded.first.Goals as goal

pub returns-in-Some : goal.returns-in-Some
returns-in-Some c =
    subst (λ (xs : List Bool). IsLeast xs c.in-Some.task) c.self.view_is
    (least-other c.self.inside.others c.self.inside.fresh c.self.inside.count c.in-Some.task c.self.inside.has_others c.self.invariant c.in-Some.ensures)

pub returns-in-None : goal.returns-in-None
returns-in-None c =
    subst (λ (xs : List Bool). IsLeast xs c.self.inside.fresh) c.self.view_is
    (least-fresh c.self.inside.others c.self.inside.fresh c.self.inside.count c.self.inside.has_others c.self.invariant c.in-None.ensures c.if-self.true)

pub returns-in-None-2 : goal.returns-in-None-2
returns-in-None-2 c = λ k.
    ap (λ (xs : List Bool). is_member xs k) (sym c.self.view_is)
    ∙ none-left c.self.inside.others c.self.inside.fresh c.self.inside.count c.self.inside.has_others c.self.invariant c.in-None.ensures c.if-self.false k
