use Rattle.std.proofs.Common.{◌≡◌, ◌<◌, suc, List, length, sym, ap, subst, ◌∙◌, arith}
use Rattle.std.specs.Cmp.{unsigned_Decides}
use Rattle.state_db.specs.Search.{IsSorted}
use Rattle.state_db.specs.Pages.{RowList, home}
use Rattle.state_db.specs.Steps.{IsRemoved, IsPassed}
use Rattle.state_db.proofs.PageOrder.{page_sorted}
use Rattle.state_db.proofs.Opened.{remove_kept, remove_dropped, some_rows}
use Rattle.state_db.proofs.Passed.{passed_set, passed_drop}
use Rattle.state_db.proofs.apply.remove.Goals as goal

pub remove-requires : goal.remove-requires
remove-requires c =
    let ps = c.args.pages.now.items in
    let n = c.home_from-at.result in
    let lt : n < length ps = subst (λ (qs : List RowList). n < length qs) c.as_slice.ensures.value c.home_from-at.ensures.bound in
    subst IsSorted (sym c.index_mut-page.ensures.value) (page_sorted ps n c.index_mut-page.result.now c.requires.open.sorted lt)

pub returns-then-not-is_empty-clause-removed : goal.returns-then-not-is_empty-clause-removed
returns-then-not-is_empty-clause-removed c =
    let ps = c.args.pages.now.items in
    let k = c.args.wanted.now in
    let n = c.home_from-at.result in
    let at : n ≡ home k ps = c.home_from-at.ensures.place ∙ ap (home k) c.as_slice.ensures.value in
    remove_kept k ps n c.index_mut-page.result.now c.remove.new.self c.requires.open at c.index_mut-page.ensures.value c.remove.ensures (λ lt. some_rows (length c.remove.new.self) (sym c.is_empty.ensures ∙ c.if-not-is_empty.true))

pub returns-then-at-len-clause-removed : goal.returns-then-at-len-clause-removed
returns-then-at-len-clause-removed c =
    let ps = c.args.pages.now.items in
    let k = c.args.wanted.now in
    let n = c.home_from-at.result in
    let at : n ≡ home k ps = c.home_from-at.ensures.place ∙ ap (home k) c.as_slice.ensures.value in
    let none : length c.remove.new.self ≡ 0 = (unsigned_Decides (length c.remove.new.self) 0).0 (sym c.is_empty.ensures ∙ c.if-not-is_empty.false) in
    let lt : suc n < length ps = omega arith in
    subst (λ (xs : List RowList). IsRemoved k ps xs) (sym c.remove-then-at-len.ensures.items)
    (remove_dropped k ps n c.index_mut-page.result.now c.remove.new.self c.requires.open at c.index_mut-page.ensures.value c.remove.ensures none lt)

pub returns-else-at-len-clause-removed : goal.returns-else-at-len-clause-removed
returns-else-at-len-clause-removed c =
    let ps = c.args.pages.now.items in
    let k = c.args.wanted.now in
    let n = c.home_from-at.result in
    let at : n ≡ home k ps = c.home_from-at.ensures.place ∙ ap (home k) c.as_slice.ensures.value in
    remove_kept k ps n c.index_mut-page.result.now c.remove.new.self c.requires.open at c.index_mut-page.ensures.value c.remove.ensures (λ lt. absurd (omega arith))

pub returns-then-not-is_empty-clause-passed : goal.returns-then-not-is_empty-clause-passed
returns-then-not-is_empty-clause-passed c =
    let ps = c.args.pages.now.items in
    let k = c.args.wanted.now in
    let n = c.home_from-at.result in
    let lt : n < length ps = subst (λ (qs : List RowList). n < length qs) c.as_slice.ensures.value c.home_from-at.ensures.bound in
    let at : n ≡ home k ps = c.home_from-at.ensures.place ∙ ap (home k) c.as_slice.ensures.value in
    passed_set k ps n c.remove.new.self at lt

pub returns-else-at-len-clause-passed : goal.returns-else-at-len-clause-passed
returns-else-at-len-clause-passed c =
    let ps = c.args.pages.now.items in
    let k = c.args.wanted.now in
    let n = c.home_from-at.result in
    let lt : n < length ps = subst (λ (qs : List RowList). n < length qs) c.as_slice.ensures.value c.home_from-at.ensures.bound in
    let at : n ≡ home k ps = c.home_from-at.ensures.place ∙ ap (home k) c.as_slice.ensures.value in
    passed_set k ps n c.remove.new.self at lt

pub returns-then-at-len-clause-passed : goal.returns-then-at-len-clause-passed
returns-then-at-len-clause-passed c =
    let ps = c.args.pages.now.items in
    let k = c.args.wanted.now in
    let n = c.home_from-at.result in
    let lt : n < length ps = subst (λ (qs : List RowList). n < length qs) c.as_slice.ensures.value c.home_from-at.ensures.bound in
    let at : n ≡ home k ps = c.home_from-at.ensures.place ∙ ap (home k) c.as_slice.ensures.value in
    subst (λ (xs : List RowList). IsPassed k xs n) (sym c.remove-then-at-len.ensures.items) (passed_drop k ps n c.remove.new.self at (omega arith))
