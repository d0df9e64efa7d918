use Rattle.std.proofs.Common.{◌<◌, ◌∙◌, List, Bool, length, sym, ap, subst, arith}
use Rattle.std.specs.Prelude.{slice_set, true}
use Rattle.task_desk.specs.Groups.{is_member}
use Rattle.task_desk.specs.Unhanded.{with_fresh, AreBefore}
use Rattle.task_desk.proofs.Fresh.{fresh-length, away-before, set-before, come-back-before}
use Rattle.task_desk.proofs.unhanded.Unhanded.come_back.Goals as goal

pub set-requires : goal.set-requires
set-requires c = omega (arith, c.requires.task, fresh-length c.self.inside.others c.self.inside.fresh, ap (λ (xs : List Bool). length xs) c.self.view_is)

pub invariant_of-self : goal.invariant_of-self
invariant_of-self c =
    let others = c.self.inside.others in
    let lt : c.args.task < length others = omega (arith, c.requires.task, fresh-length others c.self.inside.fresh, ap (λ (xs : List Bool). length xs) c.self.view_is) in
    let away = ap (λ (xs : List Bool). is_member xs c.args.task) c.self.view_is ∙ c.requires.away in
    subst (λ (xs : List Bool). AreBefore xs c.self.inside.fresh c.self.inside.count true) (sym c.set.ensures)
    (come-back-before others c.self.inside.fresh c.self.inside.count c.args.task c.self.inside.has_others c.self.invariant (away-before others c.self.inside.fresh c.args.task lt away))

pub returns : goal.returns
returns c =
    let others = c.self.inside.others in
    let fresh = c.self.inside.fresh in
    let lt : c.args.task < length others = omega (arith, c.requires.task, fresh-length others fresh, ap (λ (xs : List Bool). length xs) c.self.view_is) in
    let away = ap (λ (xs : List Bool). is_member xs c.args.task) c.self.view_is ∙ c.requires.away in
    ap (λ (xs : List Bool). with_fresh xs fresh) c.set.ensures
    ∙ set-before others fresh c.args.task true (away-before others fresh c.args.task lt away) lt
    ∙ ap (λ (xs : List Bool). slice_set xs c.args.task true) c.self.view_is
