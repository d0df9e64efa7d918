use Rattle.std.proofs.Common.{◌<◌, List, ℕ, length, sym, ap, ◌∙◌, arith}
use Rattle.std.proofs.lemmas.List.{length-map}
use Rattle.task_desk.specs.Waiting.{list_at}
use Rattle.task_desk.specs.Links.{list_of}
use Rattle.task_desk.proofs.Linking.{cleared, cleared-empty, cleared-kept}
use Rattle.task_desk.proofs.wait_lists.WaitLists.clear.Goals as goal

pub invariant_of-self : goal.invariant_of-self
invariant_of-self c =
    let lists = c.self.inside.lists.items in
    let lt : c.args.h < length lists = omega (arith, c.requires, length-map lists (list_of c.self.inside.next.items), ap (λ (ls : List (List ℕ)). length ls) c.self.view_is) in
    cleared-kept c.self.inside.next.items lists c.args.h c.index_mut.result.now.first c.self.inside.has_waiting c.self.invariant lt c.if-self.true

pub returns-then-self : goal.returns-then-self
returns-then-self c = cleared c.self.inside.next.items c.self.inside.lists.items c.args.self.now c.args.h c.index_mut.result.now.first c.self.view_is

pub returns-else-self : goal.returns-else-self
returns-else-self c = cleared-empty c.args.self.now c.args.h (ap (λ (ls : List (List ℕ)). list_at ls c.args.h) (sym c.self.view_is) ∙ c.self.invariant.none c.if-self.false c.args.h)
