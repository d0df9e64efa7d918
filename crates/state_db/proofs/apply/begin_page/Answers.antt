use Rattle.std.proofs.Common.{◌≡◌, ◌≤◌, ◌+◌, List, [], ◌∷◌, ◌++◌, length, refl, sym, ap, subst, ◌∙◌, length-append, arith}
use Rattle.std.specs.FinMap.Entries.{put}
use Rattle.rules.specs.State.{key_cmp}
use Rattle.state_db.specs.Search.{IsSorted}
use Rattle.state_db.specs.Pages.{RowList}
use Rattle.state_db.specs.Need.{AreEmpty}
use Rattle.state_db.specs.Steps.{IsPut}
use Rattle.state_db.proofs.Opened.{empty_last}
use Rattle.state_db.proofs.Begun.{put_begun}
use Rattle.state_db.proofs.apply.begin_page.Goals as goal

pub put-requires-clause-sorted : goal.put-requires-clause-sorted
put-requires-clause-sorted c =
    let none : c.in-Some.page ≡ [] = (empty_last c.pop.new.self.items c.in-Some.page (subst AreEmpty c.in-Some.ensures.items c.requires.empty)).1 in
    subst IsSorted (sym none) refl

pub put-requires-clause-room : goal.put-requires-clause-room
put-requires-clause-room c =
    let none : c.in-Some.page ≡ [] = (empty_last c.pop.new.self.items c.in-Some.page (subst AreEmpty c.in-Some.ensures.items c.requires.empty)).1 in
    subst (λ (p : RowList). length p ≤ 256) (sym none) (omega arith)

pub returns-in-Some-clause-pages : goal.returns-in-Some-clause-pages
returns-in-Some-clause-pages c =
    let none : c.in-Some.page ≡ [] = (empty_last c.pop.new.self.items c.in-Some.page (subst AreEmpty c.in-Some.ensures.items c.requires.empty)).1 in
    c.push_reserved.ensures.items
    ∙ ap (λ (p : RowList). c.args.pages.now.items ++ p ∷ []) (c.put.ensures ∙ ap (put key_cmp c.args.slot.0 c.args.slot.1) none)

pub returns-in-Some-clause-made : goal.returns-in-Some-clause-made
returns-in-Some-clause-made c =
    let ps = c.args.pages.now.items in
    let k = c.args.slot.0 in
    let v = c.args.slot.1 in
    let none : c.in-Some.page ≡ [] = (empty_last c.pop.new.self.items c.in-Some.page (subst AreEmpty c.in-Some.ensures.items c.requires.empty)).1 in
    let one_less : length c.args.spare.now.items ≡ length c.pop.new.self.items + 1 = ap length c.in-Some.ensures.items ∙ length-append c.pop.new.self.items (c.in-Some.page ∷ []) in
    let pages : c.push_reserved.new.self.items ≡ ps ++ ((k, v) ∷ []) ∷ [] = c.push_reserved.ensures.items
    ∙ ap (λ (p : RowList). ps ++ p ∷ []) (c.put.ensures ∙ ap (put key_cmp k v) none) in
    subst (λ (qs : List RowList). IsPut k v ps qs (length c.args.spare.now.items) (length c.pop.new.self.items)) (sym pages)
    (subst (λ m. IsPut k v ps (ps ++ ((k, v) ∷ []) ∷ []) m (length c.pop.new.self.items)) (sym one_less)
    (put_begun k v ps (length c.pop.new.self.items) c.requires.open c.requires.behind))

pub returns-in-Some-clause-empty : goal.returns-in-Some-clause-empty
returns-in-Some-clause-empty c = (empty_last c.pop.new.self.items c.in-Some.page (subst AreEmpty c.in-Some.ensures.items c.requires.empty)).0
