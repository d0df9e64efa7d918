-- Numbers of keys in their order.
use Rattle.std.proofs.Common.{◌≡◌, ◌⊎◌, inl, inr, ℕ, zero, suc, ◌+◌, ◌<◌, ◌≤◌, Bool, true, false, List, [], ◌∷◌, length, get_or, Option, Some, None, Result, Ok, Err, refl, sym, ap, ◌∙◌, arith, cond, leb}
use Rattle.std.specs.Prelude.{option_map}
use Rattle.std.specs.Result.{result_ok}
use Rattle.std.specs.declared.cmp.Ordering.{Ordering}
use Rattle.std.specs.declared.cmp.Ordering.TheVariants.{Less, Equal, Greater}
use Rattle.std.specs.Ordering.{is_lt, is_eq, ordering_reverse, ordering_index}
use Rattle.std.specs.List.{AllByRecursion, AllWithin}
use Rattle.std.specs.List.Sorted.{IsStrictlySortedBy, IsSorted, IsNonDecreasingBy, IsBinarySearchResult, IsSearchInRange}
use Rattle.std.proofs.lemmas.List.Sorted.{searchable_from_sorted}
use Rattle.std.proofs.lemmas.Bool.Decides.{leb_tells}
use Rattle.rules.specs.State.{StateKey, key_cmp, is_same_key}
use Rattle.rules.proofs.Keys.{key_cmp_total, key_cmp-IsAntisymmetric, key_ties, same_key_is, same_as_itself}
use Rattle.key_chains.specs.Numbers.{number_in}

-- ---- later keys are greater

above : (k : StateKey) (ks : List StateKey) (n : ℕ) (d : StateKey) → AllByRecursion (λ y. key_cmp k y ≡ Less) ks → n < length ks → key_cmp k (get_or ks n d) ≡ Less
above k [] n d h lt = absurd (omega arith)
above k (x ∷ ks) zero d h lt = h.0
above k (x ∷ ks) (suc n) d h lt = above k ks n d h.1 (omega arith)

pub rises : (ks : List StateKey) (i j : ℕ) (d : StateKey) → IsStrictlySortedBy key_cmp ks → i < j → j < length ks → key_cmp (get_or ks i d) (get_or ks j d) ≡ Less
unfolding IsStrictlySortedBy
rises [] i j d h lt below = absurd (omega arith)
rises (k ∷ ks) zero zero d h lt below = absurd (omega arith)
rises (k ∷ ks) zero (suc j) d h lt below = above k ks j d h.0 (omega arith)
rises (k ∷ ks) (suc i) zero d h lt below = absurd (omega arith)
rises (k ∷ ks) (suc i) (suc j) d h lt below = rises ks i j d h.1 (omega arith) (omega arith)

reversed : (a b : StateKey) → key_cmp a b ≡ Less → key_cmp b a ≡ Greater
reversed a b e = key_cmp_total.antisymm b a ∙ ap ordering_reverse e

not_before : (a b : StateKey) → key_cmp a b ≡ Less → is_lt (key_cmp b a) ≡ false
not_before a b e = ap is_lt (reversed a b e)

ascends : (ks : List StateKey) → IsStrictlySortedBy key_cmp ks → IsSorted key_cmp ks
ascends ks h k d low below = not_before (get_or ks k d) (get_or ks (k + 1) d) (rises ks k (k + 1) d h (omega arith) (omega arith))

searchable : (ks : List StateKey) (k : StateKey) → IsStrictlySortedBy key_cmp ks → IsNonDecreasingBy (λ y. ordering_index (key_cmp y k)) ks
searchable ks k h = searchable_from_sorted key_cmp_total (λ (y : StateKey). y) ks k (ascends ks h)

-- ---- the number of a key

pub apart : (a b : StateKey) → key_cmp a b ≡ Less → is_same_key b a ≡ false
apart a b e = sym (key_ties b a) ∙ ap is_eq (reversed a b e)

numbered : (ks : List StateKey) (n : ℕ) (d : StateKey) → IsStrictlySortedBy key_cmp ks → n < length ks → number_in ks (get_or ks n d) ≡ Some n
unfolding IsStrictlySortedBy
numbered [] n d h lt = absurd (omega arith)
numbered (k ∷ ks) zero d h lt = ap (λ (b : Bool). cond b (Some 0) (option_map suc (number_in ks k))) (same_as_itself k)
numbered (k ∷ ks) (suc n) d h lt =
    ap (λ (b : Bool). cond b (Some 0) (option_map suc (number_in ks (get_or ks n d)))) (apart k (get_or ks n d) (above k ks n d h.0 (omega arith)))
    ∙ ap (option_map suc) (numbered ks n d h.1 (omega arith))

-- the place of a key that is the same is its number
pub numbered_at : (ks : List StateKey) (n : ℕ) (found k : StateKey) → IsStrictlySortedBy key_cmp ks → n < length ks → found ≡ get_or ks n found → is_same_key found k ≡ true → number_in ks k ≡ Some n
numbered_at ks n found k h lt at same = ap (number_in ks) (sym (same_key_is found k same) ∙ at) ∙ numbered ks n found h lt

-- a key that no place ties with has none
none_in : (ks : List StateKey) (k : StateKey) → ((n : ℕ) (d : StateKey) → n < length ks → is_same_key k (get_or ks n d) ≡ false) → ◌≡◌ {A = Option ℕ} (number_in ks k) None
none_in [] k h = refl
none_in (x ∷ ks) k h =
    ap (λ (b : Bool). cond b (Some 0) (option_map suc (number_in ks k))) (h 0 x (omega arith)) ∙ ap (option_map suc) (none_in ks k (λ n d lt. h (suc n) d (omega arith)))

differs : (y k : StateKey) (o : Ordering) → key_cmp y k ≡ o → is_eq o ≡ false → is_same_key k y ≡ false
differs y k o e ne = sym (key_ties k y) ∙ ap is_eq (key_cmp_total.antisymm k y ∙ ap ordering_reverse e) ∙ turned o ne
  where
    turned : (o : Ordering) → is_eq o ≡ false → is_eq (ordering_reverse o) ≡ false
    turned Less e = refl
    turned Equal e = absurd cc
    turned Greater e = refl

-- what a search finds
pub search_is : (ks : List StateKey) (k : StateKey) (r : Result ℕ ℕ) → IsStrictlySortedBy key_cmp ks → IsSearchInRange r (length ks) → IsBinarySearchResult (λ y. key_cmp y k) ks r → result_ok r ≡ number_in ks k
search_is ks k (Ok n) h below found =
    let same : get_or ks n k ≡ k = key_cmp-IsAntisymmetric (get_or ks n k) k (found k) in sym (numbered ks n k h below) ∙ ap (number_in ks) same
search_is ks k (Err i) h below found = sym (none_in ks k at)
  where
    sides : AllWithin (λ y. key_cmp y k ≡ Less) ks 0 i × AllWithin (λ y. key_cmp y k ≡ Greater) ks i (length ks)
    sides = found (searchable ks k h)

    at : (n : ℕ) (d : StateKey) → n < length ks → is_same_key k (get_or ks n d) ≡ false
    at n d lt = by (leb_tells (suc n) i)
      where
        by : ((leb (suc n) i ≡ true) × (suc n ≤ i)) ⊎ ((leb (suc n) i ≡ false) × (i < suc n)) → is_same_key k (get_or ks n d) ≡ false
        by (inl p) = differs (get_or ks n d) k Less (sides.0 n d (omega arith) (omega (arith, p.1))) refl
        by (inr p) = differs (get_or ks n d) k Greater (sides.1 n d (omega (arith, p.1)) lt) refl
