-- Where keys belong that stand behind one whose change was made.
use Rattle.std.proofs.Common.{◌≡◌, ℕ, zero, suc, ◌+◌, ◌<◌, ◌≤◌, Bool, true, false, List, [], ◌∷◌, ◌++◌, length, get_or, take, drop, refl, sym, ap, subst, ◌∙◌, length-append, length-take, length-drop, arith}
use Rattle.std.specs.Prelude.{if◌then◌else◌, slice_set}
use Rattle.std.specs.declared.cmp.Ordering.TheVariants.{Less}
use Rattle.std.specs.Ordering.{is_lt}
use Rattle.std.specs.List.{insert}
use Rattle.std.specs.List as lists
use Rattle.std.proofs.Math.ListN.{length-set}
use Rattle.std.proofs.lemmas.List.{take-append-le}
use Rattle.std.specs.FinMap.{is_sorted}
use Rattle.std.specs.FinMap.Entries.{below_all}
use Rattle.rules.specs.declared.row.Row.{Row}
use Rattle.rules.specs.State.{StateKey, ChangeOf, key_cmp}
use Rattle.rules.proofs.Booleans.{both_true}
use Rattle.state_db.specs.Search.{IsSorted}
use Rattle.state_db.specs.Pages.{RowList, is_page_below, home}
use Rattle.state_db.specs.Steps.{IsPassed, ArePassed}
use Rattle.state_db.proofs.Tests.{is_Less}
use Rattle.state_db.proofs.Needs.{page_below_more}

-- where the pages before that of a key are as they were
home_behind : (n : ℕ) (ps qs : List RowList) (k x : StateKey) → n ≡ home k ps → take n qs ≡ take n ps → n < length qs → key_cmp k x ≡ Less → n ≤ home x qs
home_behind zero ps qs k x at same lt less = omega arith
home_behind (suc n) [] qs k x at same lt less = absurd (omega arith)
home_behind (suc n) (p ∷ []) qs k x at same lt less = absurd (omega arith)
home_behind (suc n) (p ∷ r ∷ ps) [] k x at same lt less = absurd (omega arith)
home_behind (suc n) (p ∷ r ∷ ps) (q ∷ []) k x at same lt less = absurd (omega arith)
home_behind (suc n) (p ∷ r ∷ ps) (q ∷ s ∷ qs) k x at same lt less =
    let first : p ≡ q = ap (λ (l : List RowList). get_or l 0 p) (sym same) in
    by (is_page_below k p) refl at (λ e. home_behind n (r ∷ ps) (s ∷ qs) k x e (ap (drop 1) same) (omega arith) less) first
  where
    below : is_page_below k p ≡ true → p ≡ q → is_page_below x q ≡ true
    below h e = ap (is_page_below x) (sym e) ∙ page_below_more k x p less h

    by : (b : Bool) → is_page_below k p ≡ b → suc n ≡ (if b then suc (home k (r ∷ ps)) else 0) → (n ≡ home k (r ∷ ps) → n ≤ home x (s ∷ qs)) → p ≡ q → suc n ≤ (if is_page_below x q then suc (home x (s ∷ qs)) else 0)
    by true h e more first =
        let behind = more (omega arith) in
        subst (λ (b : Bool). suc n ≤ (if b then suc (home x (s ∷ qs)) else 0)) (sym (below h first)) (omega (arith, behind))
    by false h e more first = absurd (omega arith)

-- ---- pages that change from a place on

front_set : (n : ℕ) (ps : List RowList) (q : RowList) → take n (slice_set ps n q) ≡ take n ps
front_set zero ps q = refl
front_set (suc n) [] q = refl
front_set (suc n) (p ∷ ps) q = ap (λ (l : List RowList). p ∷ l) (front_set n ps q)

front_part : (n m : ℕ) (ps qs : List RowList) → n ≤ m → n ≤ length ps → take n (take m ps ++ qs) ≡ take n ps
front_part zero m ps qs le h = refl
front_part (suc n) zero ps qs le h = absurd (omega arith)
front_part (suc n) (suc m) [] qs le h = absurd (omega arith)
front_part (suc n) (suc m) (p ∷ ps) qs le h = ap (λ (l : List RowList). p ∷ l) (front_part n m ps qs (omega arith) (omega arith))

-- a page that changes
pub passed_set : (k : StateKey) (ps : List RowList) (n : ℕ) (q : RowList) → n ≡ home k ps → n < length ps → IsPassed k (slice_set ps n q) n
passed_set k ps n q at lt = λ x less. home_behind n ps (slice_set ps n q) k x at (front_set n ps q) (omega (arith, length-set ps n q)) less

-- one that is split
pub passed_split : (k : StateKey) (ps : List RowList) (n : ℕ) (l u : RowList) → n ≡ home k ps → n < length ps → IsPassed k (insert (slice_set ps n l) (n + 1) u) n
passed_split k ps n l u at lt = λ x less.
    let qs = slice_set ps n l in
    let len : length qs ≡ length ps = length-set ps n l in
    home_behind n ps (insert qs (n + 1) u) k x at
    (front_part n (n + 1) qs (u ∷ drop (n + 1) qs) (omega arith) (omega (arith, len)) ∙ front_set n ps l)
    (simp (length-append, length-take, length-drop) (omega (arith, len))) less

-- one that goes
pub passed_drop : (k : StateKey) (ps : List RowList) (n : ℕ) (q : RowList) → n ≡ home k ps → suc n < length ps → IsPassed k (lists.remove (slice_set ps n q) n) n
passed_drop k ps n q at lt = λ x less.
    let qs = slice_set ps n q in
    let len : length qs ≡ length ps = length-set ps n q in
    home_behind n ps (lists.remove qs n) k x at
    (front_part n n qs (drop (suc n) qs) (omega arith) (omega (arith, len)) ∙ front_set n ps q)
    (simp (length-append, length-take, length-drop) (omega (arith, len))) less

-- a page behind all others
pub passed_begun : (k : StateKey) (ps : List RowList) (n : ℕ) (q : RowList) → n ≡ home k ps → n < length ps → IsPassed k (ps ++ q ∷ []) n
passed_begun k ps n q at lt = λ x less.
    home_behind n ps (ps ++ q ∷ []) k x at (take-append-le n ps (q ∷ []) (omega arith)) (simp length-append (omega arith)) less

-- ---- the changes that are left

pub above_first : (c : ChangeOf Row) (cs : List (ChangeOf Row)) → IsSorted (c ∷ cs) → below_all key_cmp c.0 cs ≡ true
above_first c cs h = (both_true (below_all key_cmp c.0 cs) (is_sorted key_cmp cs) h).0

pub first_passed : (cs : List (ChangeOf Row)) (ps : List RowList) → ArePassed cs ps 0
first_passed [] ps = tt
first_passed (c ∷ cs) ps = (omega arith, first_passed cs ps)

pub next_passed : (k : StateKey) (cs : List (ChangeOf Row)) (ps : List RowList) (n : ℕ) → below_all key_cmp k cs ≡ true → IsPassed k ps n → ArePassed cs ps n
next_passed k [] ps n h passed = tt
next_passed k (c ∷ cs) ps n h passed =
    let parts = both_true (is_lt (key_cmp k c.0)) (below_all key_cmp k cs) h in
    (passed c.0 (is_Less (key_cmp k c.0) parts.0), next_passed k cs ps n parts.1 passed)
