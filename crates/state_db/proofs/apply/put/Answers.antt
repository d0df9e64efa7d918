use Rattle.std.proofs.Common.{◌≡◌, ℕ, ◌+◌, ◌<◌, ◌≤◌, [], ◌∷◌, Bool, List, length, get_or, sym, ap, subst, ◌∙◌, length-append, arith}
use Rattle.std.specs.Prelude.{if◌then◌else◌, slice_set}
use Rattle.std.specs.List.{insert}
use Rattle.std.specs.Vec.{vec_len, vec_capacity}
use Rattle.rules.specs.State.{StateKey}
use Rattle.state_db.specs.Search.{IsSorted}
use Rattle.state_db.specs.Pages.{RowList, home, is_page_below}
use Rattle.state_db.specs.Need.{AreEmpty}
use Rattle.state_db.specs.Steps.{IsPut, IsPassed}
use Rattle.state_db.proofs.PageOrder.{page_sorted}
use Rattle.state_db.proofs.Opened.{bound_at, put_more, put_kept, put_parted, empty_last, any_default}
use Rattle.state_db.proofs.Begun.{at_end}
use Rattle.state_db.proofs.Passed.{passed_set, passed_split, passed_begun}
use Rattle.state_db.proofs.apply.put.Goals as goal

pub put-requires-clause-sorted : goal.put-requires-clause-sorted
put-requires-clause-sorted c =
    let ps = c.args.pages.now.items in
    let n = c.home_from-at.result in
    let lt : n < length ps = subst (λ (qs : List RowList). n < length qs) c.as_slice.ensures.value c.home_from-at.ensures.bound in
    subst IsSorted (sym c.index_mut-page.ensures.value) (page_sorted ps n c.index_mut-page.result.now c.requires.open.sorted lt)

pub put-requires-clause-room : goal.put-requires-clause-room
put-requires-clause-room c =
    let ps = c.args.pages.now.items in
    let n = c.home_from-at.result in
    let lt : n < length ps = subst (λ (qs : List RowList). n < length qs) c.as_slice.ensures.value c.home_from-at.ensures.bound in
    subst (λ (l : RowList). length l ≤ 256) (sym c.index_mut-page.ensures.value) (bound_at ps n c.index_mut-page.result.now c.requires.open.bounded lt)

pub split-requires-clause-full : goal.split-requires-clause-full
split-requires-clause-full c =
    let ps = c.args.pages.now.items in
    let n = c.home_from-at.result in
    let p : RowList = c.index_mut-page.result.now in
    let lt : n < length ps = subst (λ (qs : List RowList). n < length qs) c.as_slice.ensures.value c.home_from-at.ensures.bound in
    let few : length p ≤ 256 = subst (λ (l : RowList). length l ≤ 256) (sym c.index_mut-page.ensures.value) (bound_at ps n p c.requires.open.bounded lt) in
    let more : length c.put.new.self ≤ length p + 1 = subst (λ (l : RowList). length l ≤ length p + 1) (sym c.put.ensures) (put_more c.args.slot.0 c.args.slot.1 p).0 in
    omega (arith, few, more)

pub split-requires-clause-empty : goal.split-requires-clause-empty
split-requires-clause-empty c = (empty_last c.pop.new.self.items c.in-Some.upper (subst AreEmpty c.in-Some.ensures.items c.requires.empty)).1

pub returns-in-Some-clause-made : goal.returns-in-Some-clause-made
returns-in-Some-clause-made c =
    let ps = c.args.pages.now.items in
    let k : StateKey = c.args.slot.0 in
    let v = c.args.slot.1 in
    let n = c.home_from-at.result in
    let p : RowList = c.index_mut-page.result.now in
    let l : RowList = c.split.new.self in
    let u : RowList = c.split.new.upper in
    let lt : n < length ps = subst (λ (qs : List RowList). n < length qs) c.as_slice.ensures.value c.home_from-at.ensures.bound in
    let at : n ≡ home k ps = c.home_from-at.ensures.place ∙ (λ i. home (c.wanted.ensures i) (c.as_slice.ensures.value i)) in
    let few : length p ≤ 256 = subst (λ (x : RowList). length x ≤ 256) (sym c.index_mut-page.ensures.value) (bound_at ps n p c.requires.open.bounded lt) in
    let more : length c.put.new.self ≤ length p + 1 = subst (λ (x : RowList). length x ≤ length p + 1) (sym c.put.ensures) (put_more k v p).0 in
    let both : length c.put.new.self ≡ length l + length u = ap length c.split.ensures.rows ∙ length-append l u in
    let upper : length u ≡ 129 = omega (arith, few, more, both) in
    let one_less : length c.args.spare.now.items ≡ length c.pop.new.self.items + 1 = ap length c.in-Some.ensures.items ∙ length-append c.pop.new.self.items (c.in-Some.upper ∷ []) in
    let free : vec_len c.args.pages.now < vec_capacity c.args.pages.now = omega (arith, one_less) in
    let qs : List RowList = insert (slice_set ps n l) (n + 1) u in
    let inserted : c.insert.new.self.items ≡ qs = c.insert.ensures.items ∙ ap (λ (b : Bool). if b then qs else slice_set ps n l) (c.insert.ensures.succeeds free) in
    let made = put_parted k v ps n p l u (length c.pop.new.self.items) c.requires.open at c.index_mut-page.ensures.value (sym c.split.ensures.rows ∙ c.put.ensures) c.split.ensures.lower upper in
    subst (λ (xs : List RowList). IsPut k v ps xs (length c.args.spare.now.items) (length c.pop.new.self.items)) (sym inserted)
    (subst (λ m. IsPut k v ps qs m (length c.pop.new.self.items)) (sym one_less) made)

pub returns-in-Some-clause-empty : goal.returns-in-Some-clause-empty
returns-in-Some-clause-empty c = (empty_last c.pop.new.self.items c.in-Some.upper (subst AreEmpty c.in-Some.ensures.items c.requires.empty)).0

pub returns-in_default-clause-made : goal.returns-in_default-clause-made
returns-in_default-clause-made c =
    let ps = c.args.pages.now.items in
    let k : StateKey = c.args.slot.0 in
    let n = c.home_from-at.result in
    let p : RowList = c.index_mut-page.result.now in
    let lt : n < length ps = subst (λ (qs : List RowList). n < length qs) c.as_slice.ensures.value c.home_from-at.ensures.bound in
    let at : n ≡ home k ps = c.home_from-at.ensures.place ∙ (λ i. home (c.wanted.ensures i) (c.as_slice.ensures.value i)) in
    let more : length c.put.new.self ≤ length p + 1 = subst (λ (x : RowList). length x ≤ length p + 1) (sym c.put.ensures) (put_more k c.args.slot.1 p).0 in
    let there : p ≡ get_or ps (home k ps) [] = c.index_mut-page.ensures.value ∙ any_default ps n p [] lt ∙ ap (λ (i : ℕ). get_or ps i []) at in
    let full_p : 256 ≤ length p = omega (arith, more) in
    let full : 256 ≤ length (get_or ps (home k ps) []) = subst (λ (x : RowList). 256 ≤ length x) there full_p in
    let some : 0 < vec_len c.args.spare.now = omega (arith, c.requires.stock full) in
    absurd (c.in_default.not-Some _ (c.pop.ensures.value [] some))

pub returns-else-len-gt-MAX_ROWS-clause-made : goal.returns-else-len-gt-MAX_ROWS-clause-made
returns-else-len-gt-MAX_ROWS-clause-made c =
    let ps = c.args.pages.now.items in
    let k : StateKey = c.args.slot.0 in
    let n = c.home_from-at.result in
    let at : n ≡ home k ps = c.home_from-at.ensures.place ∙ (λ i. home (c.wanted.ensures i) (c.as_slice.ensures.value i)) in
    put_kept k c.args.slot.1 ps n c.index_mut-page.result.now c.put.new.self (length c.args.spare.now.items) c.requires.open at c.index_mut-page.ensures.value c.put.ensures (omega arith)

pub returns-in-Some-clause-passed : goal.returns-in-Some-clause-passed
returns-in-Some-clause-passed c =
    let ps = c.args.pages.now.items in
    let k : StateKey = c.args.slot.0 in
    let n = c.home_from-at.result in
    let l : RowList = c.split.new.self in
    let u : RowList = c.split.new.upper in
    let lt : n < length ps = subst (λ (qs : List RowList). n < length qs) c.as_slice.ensures.value c.home_from-at.ensures.bound in
    let at : n ≡ home k ps = c.home_from-at.ensures.place ∙ (λ i. home (c.wanted.ensures i) (c.as_slice.ensures.value i)) in
    let one_less : length c.args.spare.now.items ≡ length c.pop.new.self.items + 1 = ap length c.in-Some.ensures.items ∙ length-append c.pop.new.self.items (c.in-Some.upper ∷ []) in
    let free : vec_len c.args.pages.now < vec_capacity c.args.pages.now = omega (arith, one_less) in
    let qs : List RowList = insert (slice_set ps n l) (n + 1) u in
    let inserted : c.insert.new.self.items ≡ qs = c.insert.ensures.items ∙ ap (λ (b : Bool). if b then qs else slice_set ps n l) (c.insert.ensures.succeeds free) in
    subst (λ (xs : List RowList). IsPassed k xs n) (sym inserted) (passed_split k ps n l u at lt)

pub returns-else-len-gt-MAX_ROWS-clause-passed : goal.returns-else-len-gt-MAX_ROWS-clause-passed
returns-else-len-gt-MAX_ROWS-clause-passed c =
    let ps = c.args.pages.now.items in
    let k : StateKey = c.args.slot.0 in
    let n = c.home_from-at.result in
    let lt : n < length ps = subst (λ (qs : List RowList). n < length qs) c.as_slice.ensures.value c.home_from-at.ensures.bound in
    let at : n ≡ home k ps = c.home_from-at.ensures.place ∙ (λ i. home (c.wanted.ensures i) (c.as_slice.ensures.value i)) in
    passed_set k ps n c.put.new.self at lt

pub returns-in_default-clause-passed : goal.returns-in_default-clause-passed
returns-in_default-clause-passed c =
    let ps = c.args.pages.now.items in
    let k : StateKey = c.args.slot.0 in
    let n = c.home_from-at.result in
    let lt : n < length ps = subst (λ (qs : List RowList). n < length qs) c.as_slice.ensures.value c.home_from-at.ensures.bound in
    let at : n ≡ home k ps = c.home_from-at.ensures.place ∙ (λ i. home (c.wanted.ensures i) (c.as_slice.ensures.value i)) in
    passed_set k ps n c.put.new.self at lt

pub begin_page-requires-clause-behind : goal.begin_page-requires-clause-behind
begin_page-requires-clause-behind c =
    let ps = c.args.pages.now.items in
    let k : StateKey = c.args.slot.0 in
    let n = c.home_from-at.result in
    let p : RowList = c.index.result.now in
    let lt : n < length ps = subst (λ (qs : List RowList). n < length qs) c.as_slice.ensures.value c.home_from-at.ensures.bound in
    let at : n ≡ home k ps = c.home_from-at.ensures.place ∙ (λ i. home (c.wanted.ensures i) (c.as_slice.ensures.value i)) in
    let there : p ≡ get_or ps (home k ps) p = c.index.ensures ∙ ap (λ (i : ℕ). get_or ps i p) at in
    at_end k ps p p (omega (arith, lt)) there (c.is_full_before.ensures.full c.if-is_full_before.true)
    (ap (λ (x : StateKey). is_page_below x p) (sym c.wanted-2.ensures) ∙ c.is_full_before.ensures.below c.if-is_full_before.true)

pub returns-then-is_full_before-clause-passed : goal.returns-then-is_full_before-clause-passed
returns-then-is_full_before-clause-passed c =
    let ps = c.args.pages.now.items in
    let k : StateKey = c.args.slot.0 in
    let n = c.home_from-at.result in
    let lt : n < length ps = subst (λ (qs : List RowList). n < length qs) c.as_slice.ensures.value c.home_from-at.ensures.bound in
    let at : n ≡ home k ps = c.home_from-at.ensures.place ∙ (λ i. home (c.wanted.ensures i) (c.as_slice.ensures.value i)) in
    subst (λ (xs : List RowList). IsPassed k xs n) (sym c.begin_page.ensures.pages) (passed_begun k ps n (c.args.slot ∷ []) at lt)
