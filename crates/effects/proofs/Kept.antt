-- Rows that are kept with their keys.
use Rattle.std.proofs.Common.{◌≡◌, ◌≢◌, ◌⊎◌, ⊎_elim, inl, inr, ℕ, zero, suc, ◌<◌, List, [], ◌∷◌, ◌++◌, length, set, get_or, replicate, Option, Some, None, refl, sym, ap, subst, ◌∙◌, arith}
use Rattle.std.specs.Prelude.{slice_get}
use Rattle.std.specs.List.{zip}
use Rattle.std.proofs.Math.ListN.{get_or-map}
use Rattle.std.proofs.lemmas.List.{map-set, get_or-set_same, get_or-set_other}
use Rattle.std.proofs.lemmas.List.Concat.{flat_map-cons}
use Rattle.std.proofs.lemmas.Bool.{cases_eq}
use Rattle.rules.specs.declared.row.Row.{Row}
use Rattle.rules.specs.State.{StateKey}
use Rattle.effects.specs.Rows.{row_in, rows_in, HasKey, HaveKeys, change_at, changes_at, kept_change_at, kept_changes_at}
use Rattle.effects.proofs.FinalChanges.{changes-cons}

-- with its key, if there is one
abbrev Kept : Type 0
Kept = Option (StateKey × Row)

-- ---- one row is written

pub set_in : (ws : List (Option Kept)) (n : ℕ) (w : Option Kept) → rows_in (set ws n w) ≡ set (rows_in ws) n (row_in w)
set_in ws n w = map-set row_in ws n w

pub row_at : (ws : List (Option Kept)) (n : ℕ) → get_or (rows_in ws) n None ≡ row_in (get_or ws n None)
row_at ws n = get_or-map row_in ws n None

pub keys_one_more : (keys : List StateKey) (ws : List (Option Kept)) (n : ℕ) (k : StateKey) (row : Kept) (w : Option Kept) → slice_get keys n ≡ Some k → n < length ws
    → HasKey k row → ((x : Kept) → w ≡ Some x → x ≡ row) → HaveKeys keys ws → HaveKeys keys (set ws n w)
keys_one_more keys ws n k row w here below has kept before m q x at is = by (cases_eq m n)
  where
    by : (m ≡ n) ⊎ (m ≢ n) → HasKey q x
    by (inl same) =
        let key : Some q ≡ Some k = sym at ∙ ap (slice_get keys) same ∙ here in
        let own : q ≡ k = cc in
        let stands : w ≡ Some x = sym (get_or-set_same ws n w None below) ∙ ap (λ i. get_or (set ws n w) i None) (sym same) ∙ is in
        subst (HasKey q) (sym (kept x stands)) (subst (λ y. HasKey y row) (sym own) has)
    by (inr ne) = before m q x at (sym (get_or-set_other ws n m w None ne) ∙ is)

-- ---- before all

nothing : (count n : ℕ) → ◌≡◌ {A = Option Kept} (get_or (replicate count None) n None) None
nothing zero n = refl
nothing (suc count) zero = refl
nothing (suc count) (suc n) = nothing count n

pub none_in : (count : ℕ) → rows_in (replicate count None) ≡ replicate count None
none_in zero = refl
none_in (suc count) = ap (λ l. None ∷ l) (none_in count)

pub keys_none : (keys : List StateKey) (count : ℕ) → HaveKeys keys (replicate count None)
keys_none keys count n k row at is = let wrong : ◌≡◌ {A = Option Kept} None (Some row) = sym (nothing count n) ∙ is in absurd cc

-- ---- their changes

one_change : (k : StateKey) (w : Option Kept) → ((x : Kept) → w ≡ Some x → HasKey k x) → kept_change_at k w ≡ change_at k (row_in w)
one_change k None h = refl
one_change k (Some None) h = refl
one_change k (Some (Some p)) h = let same : Some p.0 ≡ Some k = h (Some p) refl in let is : p.0 ≡ k = cc in ap (λ q. (q, Some p.1) ∷ []) is

pub kept_are : (keys : List StateKey) (ws : List (Option Kept)) → HaveKeys keys ws → kept_changes_at keys ws ≡ changes_at keys (rows_in ws)
kept_are [] [] h = refl
kept_are [] (w ∷ ws) h = refl
kept_are (k ∷ ks) [] h = refl
kept_are (k ∷ ks) (w ∷ ws) h =
    flat_map-cons (λ p. kept_change_at p.1 p.0) (w, k) (zip ws ks)
    ∙ ap (λ l. l ++ kept_changes_at ks ws) (one_change k w (λ x is. h 0 k x refl is))
    ∙ ap (λ l. change_at k (row_in w) ++ l) (kept_are ks ws (λ n. h (suc n)))
    ∙ sym (changes-cons k ks (row_in w) (rows_in ws))

-- when rows or keys are at their end, no change is left
pub no_change_left : (ks : List StateKey) (ws : List (Option Kept)) → (length ws ≡ 0) ⊎ (length ks ≡ 0) → kept_changes_at ks ws ≡ []
no_change_left [] [] h = refl
no_change_left [] (w ∷ ws) h = refl
no_change_left (k ∷ ks) [] h = refl
no_change_left (k ∷ ks) (w ∷ ws) h = absurd (⊎_elim (λ n. omega (arith, n)) (λ n. omega (arith, n)) h)
