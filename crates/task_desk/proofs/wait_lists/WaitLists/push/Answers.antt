use Rattle.std.proofs.Common.{◌<◌, List, ℕ, length, ap, arith}
use Rattle.std.proofs.lemmas.List.{length-map}
use Rattle.task_desk.specs.Links.{list_of}
use Rattle.task_desk.proofs.Linking.{pushed, pushed-kept, list-length}
use Rattle.task_desk.proofs.wait_lists.WaitLists.push.Goals as goal

pub overflow_add-list : goal.overflow_add-list
overflow_add-list c =
    let lists = c.self.inside.lists.items in
    let lt : c.args.h < length lists = omega (arith, c.requires.list, length-map lists (list_of c.self.inside.next.items), ap (λ (ls : List (List ℕ)). length ls) c.self.view_is) in
    let long = list-length c.self.inside.next.items lists c.args.self.now c.args.h c.index_mut-list.result.now c.self.view_is lt c.index_mut-list.ensures.value in
    omega (arith, long, c.requires.room)

pub invariant_of-self : goal.invariant_of-self
invariant_of-self c =
    let lists = c.self.inside.lists.items in
    let lt : c.args.h < length lists = omega (arith, c.requires.list, length-map lists (list_of c.self.inside.next.items), ap (λ (ls : List (List ℕ)). length ls) c.self.view_is) in
    let inside : c.args.task < length c.self.inside.next.items = omega (arith, c.requires.task, length-map lists (list_of c.self.inside.next.items), ap (λ (ls : List (List ℕ)). length ls) c.self.view_is, c.self.invariant.within.links) in
    pushed-kept c.self.inside.next.items lists c.args.self.now c.args.h c.args.task c.index_mut-list.result.now c.self.inside.has_waiting c.self.view_is c.self.invariant lt inside c.index_mut-list.ensures.value c.requires.apart

pub returns : goal.returns
returns c =
    let lists = c.self.inside.lists.items in
    let lt : c.args.h < length lists = omega (arith, c.requires.list, length-map lists (list_of c.self.inside.next.items), ap (λ (ls : List (List ℕ)). length ls) c.self.view_is) in
    let inside : c.args.task < length c.self.inside.next.items = omega (arith, c.requires.task, length-map lists (list_of c.self.inside.next.items), ap (λ (ls : List (List ℕ)). length ls) c.self.view_is, c.self.invariant.within.links) in
    pushed c.self.inside.next.items lists c.args.self.now c.args.h c.args.task c.index_mut-list.result.now c.self.view_is lt inside c.index_mut-list.ensures.value c.requires.apart
