use Rattle.std.proofs.Common.{◌<◌, List, ℕ, length, sym, ap, subst, ◌∙◌, arith}
use Rattle.std.proofs.lemmas.List.{length-map}
use Rattle.task_desk.specs.Waiting.{chain, has, list_at}
use Rattle.task_desk.specs.Links.{list_of, AreBelow}
use Rattle.task_desk.proofs.Linking.{list_at-lists}
use Rattle.task_desk.proofs.wait_lists.WaitLists.on.Goals as goal

pub invariant_of-result : goal.invariant_of-result
invariant_of-result c = λ t wrong. absurd cc

pub returns-then-not-self : goal.returns-then-not-self
returns-then-not-self c = sym (ap (λ (ls : List (List ℕ)). list_at ls c.args.h) (sym c.self.view_is) ∙ c.self.invariant.none c.if-not-self.true c.args.h)

pub invariant_of-result-2 : goal.invariant_of-result-2
invariant_of-result-2 c =
    let next = c.self.inside.next.items in
    let lists = c.self.inside.lists.items in
    let list = c.index-list.result.now in
    let lt : c.args.h < length lists = omega (arith, c.requires, length-map lists (list_of next), ap (λ (ls : List (List ℕ)). length ls) c.self.view_is) in
    subst (λ (links : List ℕ). AreBelow (chain links c.from.result c.from-2.result) (length links)) (sym c.as_slice-next.ensures.value)
    (λ t is. c.self.invariant.within.tasks c.args.h t (ap (λ (ts : List ℕ). has ts t)
    (list_at-lists next lists c.args.h list lt ∙ ap (list_of next) (sym c.index-list.ensures) ∙ (λ k. chain next (sym c.from.ensures k) (sym c.from-2.ensures k))) ∙ is))
