use Rattle.std.proofs.Common.{◌≡◌, ◌∙◌, ◌<◌, ℕ, List, Bool, false, length, ap, arith}
use Rattle.std.specs.Prelude.{slice_set}
use Rattle.task_desk.specs.Unhanded.{with_fresh}
use Rattle.task_desk.proofs.Fresh.{fresh-length, set-before, leaves, leave-keeps}
use Rattle.task_desk.proofs.unhanded.Unhanded.leave.Goals as goal

inside : (others : List Bool) (fresh t : ℕ) (now : List Bool) → with_fresh others fresh ≡ now → t < length now → t < length others
inside others fresh t now is lt = omega (arith, lt, fresh-length others fresh, ap (λ (xs : List Bool). length xs) is)

pub put_run-requires : goal.put_run-requires
put_run-requires c =
    let lt = inside c.self.inside.others c.self.inside.fresh c.args.task c.args.self.now c.self.view_is c.requires in
    (c.if-task-self.false, omega (arith, lt))

pub overflow_add-self : goal.overflow_add-self
overflow_add-self c =
    let lt = inside c.self.inside.others c.self.inside.fresh c.args.task c.args.self.now c.self.view_is c.requires in
    let all = c.self.invariant.all in
    let small = c.self.invariant.small in omega (arith, lt, all, small)

pub invariant_of-self-else-task-self : goal.invariant_of-self-else-task-self
invariant_of-self-else-task-self c =
    leave-keeps c.self.inside.others c.put_run.new.tasks c.self.inside.fresh c.self.inside.count c.args.task c.self.inside.has_others c.self.invariant c.if-task-self.false
    (inside c.self.inside.others c.self.inside.fresh c.args.task c.args.self.now c.self.view_is c.requires) c.put_run.ensures

pub returns-then-task-self : goal.returns-then-task-self
returns-then-task-self c =
    ap (λ (xs : List Bool). with_fresh xs c.self.inside.fresh) c.set.ensures
    ∙ set-before c.self.inside.others c.self.inside.fresh c.args.task false c.if-task-self.true (inside c.self.inside.others c.self.inside.fresh c.args.task c.args.self.now c.self.view_is c.requires)
    ∙ ap (λ (xs : List Bool). slice_set xs c.args.task false) c.self.view_is

pub returns-else-task-self : goal.returns-else-task-self
returns-else-task-self c =
    leaves c.self.inside.others c.put_run.new.tasks c.self.inside.fresh c.self.inside.count c.args.task c.self.inside.has_others c.self.invariant c.if-task-self.false
    (inside c.self.inside.others c.self.inside.fresh c.args.task c.args.self.now c.self.view_is c.requires) c.put_run.ensures
    ∙ ap (λ (xs : List Bool). slice_set xs c.args.task false) c.self.view_is
