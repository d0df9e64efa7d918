-- Splits counted change by change.
use Rattle.std.proofs.Common.{◌≡◌, ℕ, zero, suc, ◌+◌, ◌<◌, ◌≤◌, Bool, true, false, cond, not, List, [], ◌∷◌, length, drop, get_or, Some, None, refl, sym, ap, subst, ◌∙◌, length-drop, arith}
use Rattle.std.specs.Prelude.{if◌then◌else◌}
use Rattle.std.specs.FinMap.{is_sorted}
use Rattle.std.specs.FinMap.Entries.{below_all}
use Rattle.rules.specs.declared.row.Row.{Row}
use Rattle.rules.specs.State.{StateKey, ChangeOf, key_cmp}
use Rattle.rules.proofs.Booleans.{both_true}
use Rattle.state_db.specs.Search.{IsSorted}
use Rattle.state_db.specs.Pages.{RowList, joined, is_page_below, home}
use Rattle.state_db.specs.Need.{added, added_by, splits, past, up_to, need, cost, AreBounded, AreOpen}
use Rattle.state_db.proofs.Order.{sorted_back}
use Rattle.state_db.proofs.Needs.{splits_few, all_past, none_up_to}

pub added-le : (c : ChangeOf Row) → added c ≤ 1
added-le (k, None) = omega arith
added-le (k, Some v) = omega arith

-- the page where the count stands
pub cost_first : (ps : List RowList) (d : RowList) (cs : List (ChangeOf Row)) → 0 < length ps → cost (length (get_or ps 0 d)) ps cs ≡ need ps cs
cost_first [] d cs some = absurd (omega arith)
cost_first (p ∷ []) d cs some = refl
cost_first (p ∷ q ∷ ps) d cs some = refl

need_none : (ps : List RowList) → AreBounded ps → need ps [] ≡ 0
need_none [] h = refl
need_none (p ∷ []) h = splits_few (length p + 0) (omega (arith, h.0))
need_none (p ∷ q ∷ ps) h = let here = splits_few (length p + 0) (omega (arith, h.0)) in let rest = need_none (q ∷ ps) h.1 in omega (arith, here, rest)

pub cost_none : (n : ℕ) (ps : List RowList) → AreOpen ps → cost n ps [] ≡ splits n
cost_none n [] h = absurd (omega (arith, h.some))
cost_none n (p ∷ []) h = omega arith
cost_none n (p ∷ q ∷ ps) h = let rest = need_none (q ∷ ps) h.bounded.1 in omega (arith, rest)

-- a change that falls to the page
pub cost_here : (n : ℕ) (ps : List RowList) (c : ChangeOf Row) (cs : List (ChangeOf Row)) → 0 < length ps → home c.0 ps ≡ 0 → cost n ps (c ∷ cs) ≡ cost (n + added c) ps cs
cost_here n [] c cs some at = absurd (omega arith)
cost_here n (p ∷ []) c cs some at = omega arith
cost_here n (p ∷ q ∷ ps) c cs some at = by (is_page_below c.0 p) at
  where
    by : (b : Bool) → (if b then suc (home c.0 (q ∷ ps)) else 0) ≡ 0
        → splits (n + added_by (cond (not b) (c ∷ up_to p cs) (up_to p cs))) + need (q ∷ ps) (cond b (c ∷ past p cs) (past p cs)) ≡ splits (n + added c + added_by (up_to p cs)) + need (q ∷ ps) (past p cs)
    by true at = absurd (omega arith)
    by false at = omega arith

-- pages in front of a change's take nothing of it, nor of those behind it
need_skip : (ps : List RowList) (c : ChangeOf Row) (cs : List (ChangeOf Row)) → AreBounded ps → below_all key_cmp c.0 cs ≡ true → need ps (c ∷ cs) ≡ need (drop (home c.0 ps) ps) (c ∷ cs)
need_skip [] c cs h above = refl
need_skip (p ∷ []) c cs h above = refl
need_skip (p ∷ q ∷ ps) c cs h above = by (is_page_below c.0 p) refl (need_skip (q ∷ ps) c cs h.1 above)
  where
    by : (b : Bool) → is_page_below c.0 p ≡ b → need (q ∷ ps) (c ∷ cs) ≡ need (drop (home c.0 (q ∷ ps)) (q ∷ ps)) (c ∷ cs)
        → need (p ∷ q ∷ ps) (c ∷ cs) ≡ need (drop (if b then suc (home c.0 (q ∷ ps)) else 0) (p ∷ q ∷ ps)) (c ∷ cs)
    by true below rest =
        let few = splits_few (length p + 0) (omega (arith, h.0)) in
        rw (below, none_up_to p c.0 cs above below, all_past p c.0 cs above below) (omega (arith, few, rest))
    by false below rest = refl

-- a change behind the page, where the next page's count begins
pub cost_on : (n : ℕ) (ps : List RowList) (d : RowList) (c : ChangeOf Row) (cs : List (ChangeOf Row)) → AreBounded ps → below_all key_cmp c.0 cs ≡ true → 0 < home c.0 ps → home c.0 ps < length ps
    → cost n ps (c ∷ cs) ≡ splits n + cost (length (get_or (drop (home c.0 ps) ps) 0 d)) (drop (home c.0 ps) ps) (c ∷ cs)
cost_on n [] d c cs h above on lt = absurd (omega arith)
cost_on n (p ∷ []) d c cs h above on lt = absurd (omega arith)
cost_on n (p ∷ q ∷ ps) d c cs h above on lt = by (is_page_below c.0 p) refl on lt
  where
    by : (b : Bool) → is_page_below c.0 p ≡ b → 0 < (if b then suc (home c.0 (q ∷ ps)) else 0) → (if b then suc (home c.0 (q ∷ ps)) else 0) < suc (suc (length ps))
        → cost n (p ∷ q ∷ ps) (c ∷ cs)
        ≡ splits n + cost (length (get_or (drop (if b then suc (home c.0 (q ∷ ps)) else 0) (p ∷ q ∷ ps)) 0 d)) (drop (if b then suc (home c.0 (q ∷ ps)) else 0) (p ∷ q ∷ ps)) (c ∷ cs)
    by true below on lt =
        let some : 0 < length (drop (home c.0 (q ∷ ps)) (q ∷ ps)) = simp length-drop (omega arith) in
        let same = need_skip (q ∷ ps) c cs h.1 above ∙ sym (cost_first (drop (home c.0 (q ∷ ps)) (q ∷ ps)) d (c ∷ cs) some) in
        rw (below, none_up_to p c.0 cs above below, all_past p c.0 cs above below) (omega (arith, same))
    by false below on lt = absurd (omega arith)

-- ---- pages from a place on

open_tail : (p : RowList) (ps : List RowList) → 0 < length ps → AreOpen (p ∷ ps) → AreOpen ps
open_tail p [] some h = absurd (omega arith)
open_tail p (q ∷ ps) some h = record { some = some; sorted = sorted_back p (joined (q ∷ ps)) h.sorted; filled = h.filled.1; bounded = h.bounded.1 }

pub open_drop : (n : ℕ) (ps : List RowList) → n < length ps → AreOpen ps → AreOpen (drop n ps)
open_drop zero ps lt h = h
open_drop (suc n) [] lt h = absurd (omega arith)
open_drop (suc n) (p ∷ ps) lt h = open_drop n ps (omega arith) (open_tail p ps (omega arith) h)

-- ---- changes from a place on

pub sorted_drop : (cs : List (ChangeOf Row)) (i : ℕ) (d : ChangeOf Row) → IsSorted cs → i < length cs → below_all key_cmp (get_or cs i d).0 (drop (suc i) cs) ≡ true
sorted_drop [] i d h lt = absurd (omega arith)
sorted_drop (c ∷ cs) zero d h lt = (both_true (below_all key_cmp c.0 cs) (is_sorted key_cmp cs) h).0
sorted_drop (c ∷ cs) (suc i) d h lt = sorted_drop cs i d (both_true (below_all key_cmp c.0 cs) (is_sorted key_cmp cs) h).1 (omega arith)

-- from its page on, that page is the first
pub home_again : (k : StateKey) (ps : List RowList) → home k (drop (home k ps) ps) ≡ 0
home_again k [] = refl
home_again k (p ∷ []) = refl
home_again k (p ∷ q ∷ ps) = by (is_page_below k p) refl (home_again k (q ∷ ps))
  where
    by : (b : Bool) → is_page_below k p ≡ b → home k (drop (home k (q ∷ ps)) (q ∷ ps)) ≡ 0 → home k (drop (if b then suc (home k (q ∷ ps)) else 0) (p ∷ q ∷ ps)) ≡ 0
    by true s rest = rest
    by false s rest = ap (λ (b : Bool). if b then suc (home k (q ∷ ps)) else 0) s

-- a change on another page: the count so far is closed, and that of its page begins
pub cost_next : (n : ℕ) (ps qs : List RowList) (d : RowList) (c : ChangeOf Row) (cs : List (ChangeOf Row)) → AreOpen ps → below_all key_cmp c.0 cs ≡ true → 0 < home c.0 ps → home c.0 ps < length ps
    → qs ≡ drop (home c.0 ps) ps → d ≡ get_or qs 0 d → cost n ps (c ∷ cs) ≡ splits n + cost (length d + added c) qs cs
cost_next n ps qs d c cs h above on lt from first =
    cost_on n ps d c cs h.bounded above on lt
    ∙ ap (λ (m : ℕ). splits n + m)
    ((λ i. cost (length (get_or (sym from i) 0 d)) (sym from i) (c ∷ cs))
    ∙ (λ i. cost (length (sym first i)) qs (c ∷ cs))
    ∙ cost_here (length d) qs c cs (subst (λ (l : List RowList). 0 < length l) (sym from) (simp length-drop (omega arith))) (ap (home c.0) from ∙ home_again c.0 ps))

pub none_left : (cs : List (ChangeOf Row)) (i : ℕ) → length cs ≤ i → drop i cs ≡ []
none_left [] zero h = refl
none_left [] (suc i) h = refl
none_left (c ∷ cs) zero h = absurd (omega arith)
none_left (c ∷ cs) (suc i) h = none_left cs i (omega arith)
