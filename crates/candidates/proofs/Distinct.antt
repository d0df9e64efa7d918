-- Labels of which no two are the same, found by their order.
use Rattle.std.proofs.Common.{◌≡◌, ℕ, ◌+◌, Bool, true, false, not, ◌&&◌, ◌||◌, List, [], ◌∷◌, map, get_or, refl, sym, ap, subst, ◌∙◌, arith}
use Rattle.std.specs.declared.cmp.Ordering.{Ordering}
use Rattle.std.specs.declared.cmp.Ordering.TheVariants.{Less, Equal, Greater}
use Rattle.std.specs.Str.{bytes_eq}
use Rattle.std.specs.Ordering.{eq_by_cmp, is_lt, is_eq, nat_cmp, ordering_reverse}
use Rattle.std.specs.Cmp.{IsTotalOrder, on_total, unsigned_ties}
use Rattle.std.specs.Cmp.Lexicographic.{nat_list_cmp_total, nat_list_eq_equiv, lists_ties}
use Rattle.std.specs.List.{AllByRecursion, list_any, IsDistinct}
use Rattle.std.specs.List.Sorted.{IsPermutation, IsSorted, IsStrictlySortedBy}
use Rattle.std.specs.FinMap.Entries.{below_all, is_sorted}
use Rattle.std.proofs.lemmas.Map.Keys.{IsDistinct-from_sorted, IsDistinct-IsPermutation, apart_from_distinct, sorted_from_all_adjacent}
use Rattle.std.proofs.lemmas.List.Sorted.{IsPermutation-sym}
use Rattle.values.specs.Order.{bytes_cmp}
use Rattle.rules.specs.ReadWriteSets.{are_distinct}
use Rattle.candidates.specs.Rising.{are_rising}
use Rattle.candidates.proofs.InOrder.{marked, keys_marked}
use Rattle.candidates.proofs.Rising.{rise_from, rise_to, first_holds, second_holds, both_hold, same_test}

pub none_from : {K : Type 0} (p : K → Bool) (xs : List K) → not (list_any p xs) ≡ true → AllByRecursion (λ y. p y ≡ false) xs
none_from p [] h = tt
none_from p (x ∷ xs) h =
    elim (p x) as (λ b. p x ≡ b → not (b || list_any p xs) ≡ true → AllByRecursion (λ y. p y ≡ false) (x ∷ xs)) [
      | true ↦ λ _ n. absurd (let f : true ≡ false = sym n in cc)
      | false ↦ λ e n. (e, none_from p xs n)
    ] refl h

none_to : {K : Type 0} (p : K → Bool) (xs : List K) → AllByRecursion (λ y. p y ≡ false) xs → not (list_any p xs) ≡ true
none_to p [] h = refl
none_to p (x ∷ xs) h = rw h.0 (none_to p xs h.1)

pub any_map : {K : Type 0} (f : K → List ℕ) (x : List ℕ) (xs : List K) → list_any (bytes_eq x) (map f xs) ≡ list_any (λ y. bytes_eq x (f y)) xs
any_map f x [] = refl
any_map f x (y ∷ ys) = ap (λ b. bytes_eq x (f y) || b) (any_map f x ys)

sorted_step : (o p : Ordering) → o ≡ ordering_reverse p → is_lt p ≡ false → is_eq o ≡ false → o ≡ Less
sorted_step Less p e n d = refl
sorted_step Equal p e n d = absurd (let f : true ≡ false = d in cc)
sorted_step Greater Less e n d = absurd (let f : true ≡ false = n in cc)
sorted_step Greater Equal e n d = cc
sorted_step Greater Greater e n d = cc

module _ {K : Type 0} (f : K → List ℕ) where
  abbrev same : K → K → Bool
  same x y = bytes_eq (f x) (f y)

  abbrev order : K → K → Ordering
  order x y = bytes_cmp (f x) (f y)

  order_total : IsTotalOrder order
  order_total = on_total f nat_list_cmp_total

  ties : (x y : K) → eq_by_cmp order x y ≡ same x y
  ties x y = sym (lists_ties nat_cmp unsigned_ties (f x) (f y))

  distinct_from : (xs : List K) → are_distinct (map f xs) ≡ true → IsDistinct same xs
  unfolding IsDistinct
  distinct_from [] h = tt
  distinct_from (x ∷ xs) h =
      (none_from _ xs (ap not (sym (any_map f (f x) xs)) ∙ first_holds _ _ h), distinct_from xs (second_holds (not (list_any (bytes_eq (f x)) (map f xs))) _ h))

  distinct_to : (xs : List K) → IsDistinct same xs → are_distinct (map f xs) ≡ true
  unfolding IsDistinct
  distinct_to [] h = refl
  distinct_to (x ∷ xs) h = both_hold _ _ (ap not (any_map f (f x) xs) ∙ none_to _ xs h.0) (distinct_to xs h.1)

  rising : (ys : List K) → IsSorted order ys → IsDistinct same ys → IsStrictlySortedBy order ys
  unfolding IsStrictlySortedBy
  rising [] up apart = tt
  rising (y ∷ ys) up apart =
      sorted_from_all_adjacent order_total (y ∷ ys) y (λ k lt.
      sorted_step _ _ (order_total.antisymm (get_or (y ∷ ys) k y) (get_or (y ∷ ys) (k + 1) y))
      (up k y (omega arith) lt)
      (ties _ _ ∙ apart_from_distinct same (y ∷ ys) k (k + 1) y apart (omega arith) lt))

  same_flips : (x y : K) → same x y ≡ same y x
  same_flips x y = nat_list_eq_equiv.symm (f x) (f y)

  below_same : (y : K) (ys : List K) → below_all bytes_cmp (f y) (marked (map f ys)) ≡ below_all order y (marked ys)
  below_same y [] = refl
  below_same y (x ∷ xs) = ap (λ b. is_lt (order y x) && b) (below_same y xs)

  rises_same : (ys : List K) → is_sorted bytes_cmp (marked (map f ys)) ≡ is_sorted order (marked ys)
  rises_same [] = refl
  rises_same (y ∷ ys) = λ i. below_same y ys i && rises_same ys i

  told : (ys : List K) → IsDistinct (eq_by_cmp order) ys → IsDistinct same ys
  told ys h = subst (λ e. IsDistinct e ys) (λ i x y. ties x y i) h

  pub distinct_by_order : (xs ys : List K) → IsPermutation xs ys → IsSorted order ys → are_distinct (map f xs) ≡ are_rising (map f ys)
  distinct_by_order xs ys moved up =
      same_test _ _
      (λ d. rises_same ys ∙ rise_to order (marked ys) (rw (keys_marked ys) (rising ys up (IsDistinct-IsPermutation same same_flips xs ys moved (distinct_from xs d)))))
      (λ r. distinct_to xs (IsDistinct-IsPermutation same same_flips ys xs (IsPermutation-sym xs ys moved)
      (told ys (IsDistinct-from_sorted order ys (rw keys_marked at (rise_from order (marked ys) (sym (rises_same ys) ∙ r)))))))

  pub rising_are_distinct : (xs : List K) → are_rising (map f xs) ≡ true → are_distinct (map f xs) ≡ true
  rising_are_distinct xs r =
      distinct_to xs (told xs (IsDistinct-from_sorted order xs (rw keys_marked at (rise_from order (marked xs) (sym (rises_same xs) ∙ r)))))
