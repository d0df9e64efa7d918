-- Rows at the places of their keys.
use Rattle.std.proofs.Common.{◌≡◌, ◌≢◌, ◌⊎◌, inl, inr, ℕ, zero, suc, ◌<◌, Bool, true, false, cond, List, [], ◌∷◌, length, set, get_or, replicate, Option, Some, None, refl, sym, ap, ◌∙◌}
use Rattle.std.specs.Prelude.{unwrap_or, slice_get}
use Rattle.std.specs.FinMap.{get}
use Rattle.std.specs.List.{AllByRecursion}
use Rattle.std.specs.List.Sorted.{IsStrictlySortedBy}
use Rattle.std.specs.Ordering.{is_eq}
use Rattle.std.specs.declared.cmp.Ordering.{Ordering}
use Rattle.std.specs.declared.cmp.Ordering.TheVariants.{Less, Equal, Greater}
use Rattle.std.proofs.lemmas.List.{get_or-set_same, get_or-set_other}
use Rattle.std.proofs.lemmas.Bool.{cases_eq}
use Rattle.rules.specs.declared.row.Row.{Row}
use Rattle.rules.specs.State.{StateKey, State, key_cmp, is_same_key, set_at}
use Rattle.rules.specs.Job.{Job}
use Rattle.rules.proofs.Changes.{get-set_at}
use Rattle.rules.proofs.Keys.{key_ties, same_key_is, same_as_itself}
use Rattle.key_chains.specs.Job.{keys_of}
use Rattle.effects.specs.Rows.{ShowRows, AreRealRows, change_of_row, is_real_row}

-- ---- no key repeats in a list that strictly rises

above_apart : (k : StateKey) (ks : List StateKey) (n : ℕ) → AllByRecursion (λ y. key_cmp k y ≡ Less) ks → slice_get ks n ≡ Some k → Less ≡ Equal
above_apart k [] n h e = absurd cc
above_apart k (x ∷ ks) zero h e =
    let same : x ≡ k = cc in
    sym (ap (key_cmp k) (sym same) ∙ h.0) ∙ tied k
  where
    tie : (o : Ordering) → is_eq o ≡ true → o ≡ Equal
    tie Less e = absurd cc
    tie Equal e = refl
    tie Greater e = absurd cc

    tied : (k : StateKey) → key_cmp k k ≡ Equal
    tied k = tie (key_cmp k k) (key_ties k k ∙ same_as_itself k)
above_apart k (x ∷ ks) (suc n) h e = above_apart k ks n h.1 e

pub one_place : (ks : List StateKey) (k : StateKey) (m n : ℕ) → IsStrictlySortedBy key_cmp ks → slice_get ks m ≡ Some k → slice_get ks n ≡ Some k → m ≡ n
unfolding IsStrictlySortedBy
one_place [] k m n h a b = absurd cc
one_place (x ∷ ks) k zero zero h a b = refl
one_place (x ∷ ks) k zero (suc n) h a b =
    let same : x ≡ k = cc in let wrong = above_apart x ks n h.0 (b ∙ ap Some (sym same)) in absurd cc
one_place (x ∷ ks) k (suc m) zero h a b =
    let same : x ≡ k = cc in let wrong = above_apart x ks m h.0 (a ∙ ap Some (sym same)) in absurd cc
one_place (x ∷ ks) k (suc m) (suc n) h a b = ap suc (one_place ks k m n h.1 a b)

-- ---- one row is written

-- what is kept for it at its place
pub shows_one_more : (j : Job) (rows : List (Option (Option Row))) (s : State) (n : ℕ) (k : StateKey) (row : Option Row) (written : Option (Option Row)) → unwrap_or written (get j.state k) ≡ row
    → IsStrictlySortedBy key_cmp (keys_of j) → slice_get (keys_of j) n ≡ Some k → n < length rows
    → ShowRows j rows s → ShowRows j (set rows n written) (set_at s k row)
shows_one_more j rows s n k row written stands rising here below before m q at = by (cases_eq m n)
  where
    apart : m ≢ n → (b : Bool) → is_same_key q k ≡ b → get s q ≡ cond b row (get s q)
    apart ne true e = absurd (ne (one_place (keys_of j) q m n rising at (here ∙ ap Some (sym (same_key_is q k e)))))
    apart ne false e = refl

    by : (m ≡ n) ⊎ (m ≢ n) → unwrap_or (get_or (set rows n written) m None) (get j.state q) ≡ get (set_at s k row) q
    by (inl same) =
        let key : Some q ≡ Some k = sym at ∙ ap (slice_get (keys_of j)) same ∙ here in
        let is : q ≡ k = cc in
        ap (λ x. unwrap_or (get_or (set rows n written) x None) (get j.state q)) same
        ∙ ap (λ x. unwrap_or x (get j.state q)) (get_or-set_same rows n written None below)
        ∙ ap (λ x. unwrap_or written (get j.state x)) is ∙ stands
        ∙ ap (λ (b : Bool). cond b row (get s k)) (sym (same_as_itself k)) ∙ sym (get-set_at s k row k) ∙ ap (get (set_at s k row)) (sym is)
    by (inr ne) =
        ap (λ x. unwrap_or x (get j.state q)) (get_or-set_other rows n m written None ne)
        ∙ before m q at ∙ apart ne (is_same_key q k) refl ∙ sym (get-set_at s k row q)

pub change_stands : (before row : Option Row) → unwrap_or (change_of_row before row) before ≡ row
change_stands None None = refl
change_stands None (Some row) = refl
change_stands (Some before) row = refl

change_is_real : (before row : Option Row) → is_real_row before (change_of_row before row) ≡ true
change_is_real None None = refl
change_is_real None (Some row) = refl
change_is_real (Some before) None = refl
change_is_real (Some before) (Some row) = refl

pub real_one_more : (j : Job) (rows : List (Option (Option Row))) (n : ℕ) (k : StateKey) (row : Option Row) → slice_get (keys_of j) n ≡ Some k → n < length rows
    → AreRealRows j rows → AreRealRows j (set rows n (change_of_row (get j.state k) row))
real_one_more j rows n k row here below before m q at = by (cases_eq m n)
  where
    written : Option (Option Row)
    written = change_of_row (get j.state k) row

    by : (m ≡ n) ⊎ (m ≢ n) → is_real_row (get j.state q) (get_or (set rows n written) m None) ≡ true
    by (inl same) =
        let key : Some q ≡ Some k = sym at ∙ ap (slice_get (keys_of j)) same ∙ here in
        let is : q ≡ k = cc in
        ap (λ x. is_real_row (get j.state q) (get_or (set rows n written) x None)) same
        ∙ ap (is_real_row (get j.state q)) (get_or-set_same rows n written None below)
        ∙ ap (λ x. is_real_row (get j.state x) written) is ∙ change_is_real (get j.state k) row
    by (inr ne) = ap (is_real_row (get j.state q)) (get_or-set_other rows n m written None ne) ∙ before m q at

-- ---- before all

nothing : (count n : ℕ) → ◌≡◌ {A = Option (Option Row)} (get_or (replicate count None) n None) None
nothing zero n = refl
nothing (suc count) zero = refl
nothing (suc count) (suc n) = nothing count n

pub shows_none : (j : Job) (count : ℕ) → ShowRows j (replicate count None) j.state
shows_none j count n k at = ap (λ x. unwrap_or x (get j.state k)) (nothing count n)

pub real_none : (j : Job) (count : ℕ) → AreRealRows j (replicate count None)
real_none j count n k at = ap (is_real_row (get j.state k)) (nothing count n)
