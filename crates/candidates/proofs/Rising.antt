-- Keys that strictly rise, tested one by one.
use Rattle.std.proofs.Common.{◌≡◌, ℕ, ◌+◌, ◌<◌, Bool, true, false, ◌&&◌, T, List, [], ◌∷◌, ◌++◌, length, drop, get_or, map, is_some, drop-cons, add-one, refl, sym, ap, ◌∙◌}
use Rattle.std.specs.declared.cmp.Ordering.{Ordering}
use Rattle.std.specs.declared.cmp.Ordering.TheVariants.{Less, Equal, Greater}
use Rattle.std.specs.Ordering.{eq_by_cmp, is_lt}
use Rattle.std.specs.Cmp.{IsTotalOrder}
use Rattle.std.specs.Cmp.Lexicographic.{nat_list_cmp_total}
use Rattle.std.specs.List.{AllByRecursion, list_any}
use Rattle.std.specs.List.Sorted.{IsStrictlySortedBy}
use Rattle.std.specs.FinMap.{keys, from_entries, entries, entries_sorted, contains_key-keys, get-from_entries}
use Rattle.std.specs.FinMap.Entries.{below_all, is_sorted}
use Rattle.values.specs.Order.{bytes_cmp}
use Rattle.candidates.specs.Rising.{are_rising}
use Rattle.candidates.proofs.InOrder.{marked, keys_marked, find_marked}

pub same_test : (a b : Bool) → (a ≡ true → b ≡ true) → (b ≡ true → a ≡ true) → a ≡ b
same_test true true p q = refl
same_test true false p q = sym (p refl)
same_test false true p q = q refl
same_test false false p q = refl

pub is_Less : (o : Ordering) → is_lt o ≡ true → o ≡ Less
is_Less Less e = refl
is_Less Equal e = cc
is_Less Greater e = cc

pub first_holds : (a b : Bool) → (a && b) ≡ true → a ≡ true
first_holds true b e = refl
first_holds false b e = e

pub second_holds : (a b : Bool) → (a && b) ≡ true → b ≡ true
second_holds true b e = e
second_holds false b e = cc

pub both_hold : (a b : Bool) → a ≡ true → b ≡ true → (a && b) ≡ true
both_hold true b p q = q
both_hold false b p q = cc

is_true : (b : Bool) → T b → b ≡ true
is_true true h = refl
is_true false h = absurd h

module _ {K X : Type 0} (R : K → K → Ordering) where
  below_from : (k : K) (es : List (K × X)) → below_all R k es ≡ true → AllByRecursion (λ y. R k y ≡ Less) (map (λ e. e.0) es)
  below_from k [] h = tt
  below_from k (x ∷ xs) h = (is_Less (R k x.0) (first_holds _ _ h), below_from k xs (second_holds (is_lt (R k x.0)) _ h))

  below_to : (k : K) (es : List (K × X)) → AllByRecursion (λ y. R k y ≡ Less) (map (λ e. e.0) es) → below_all R k es ≡ true
  below_to k [] h = refl
  below_to k (x ∷ xs) h = both_hold _ _ (ap is_lt h.0) (below_to k xs h.1)

  -- entries whose keys rise have keys that rise
  pub rise_from : (es : List (K × X)) → is_sorted R es ≡ true → IsStrictlySortedBy R (map (λ e. e.0) es)
  unfolding IsStrictlySortedBy
  rise_from [] h = tt
  rise_from (x ∷ xs) h = (below_from x.0 xs (first_holds _ _ h), rise_from xs (second_holds (below_all R x.0 xs) _ h))

  pub rise_to : (es : List (K × X)) → IsStrictlySortedBy R (map (λ e. e.0) es) → is_sorted R es ≡ true
  unfolding IsStrictlySortedBy
  rise_to [] h = refl
  rise_to (x ∷ xs) h = both_hold _ _ (below_to x.0 xs h.0) (rise_to xs h.1)

-- the list of a set strictly rises
pub set_rises : {K : Type 0} (R : K → K → Ordering) (ks : List K) → IsStrictlySortedBy R (keys (from_entries {R = R} (marked ks)))
set_rises R ks = rise_from R (entries (from_entries {R = R} (marked ks))) (is_true _ (entries_sorted (from_entries {R = R} (marked ks))))

-- and has the same items
pub set_keeps : {K : Type 0} {R : K → K → Ordering} (o : IsTotalOrder R) (ks : List K) (q : K) → list_any (eq_by_cmp R q) (keys (from_entries {R = R} (marked ks))) ≡ list_any (eq_by_cmp R q) ks
set_keeps {R = R} o ks q = sym (contains_key-keys (from_entries {R = R} (marked ks)) q) ∙ ap is_some (get-from_entries o (marked ks) q) ∙ find_marked o ks q

-- ---- from the left to the right

above : {K : Type 0} {R : K → K → Ordering} (o : IsTotalOrder R) (k x : K) → R k x ≡ Less → (ks : List K) → AllByRecursion (λ y. R x y ≡ Less) ks → AllByRecursion (λ y. R k y ≡ Less) ks
above o k x e [] h = tt
above o k x e (y ∷ ys) h = (o.trans k x y e h.0, above o k x e ys h.1)

-- after a lower one no more is required of the rest
pub rise_higher : (last x : List ℕ) (xs : List (List ℕ)) → is_lt (bytes_cmp last x) ≡ true → are_rising (last ∷ x ∷ xs) ≡ are_rising (x ∷ xs)
rise_higher last x xs e =
    same_test _ _
    (second_holds (below_all bytes_cmp last (marked (x ∷ xs))) (are_rising (x ∷ xs)))
    (λ up. both_hold _ _
    (both_hold _ _ e (below_to bytes_cmp last (marked xs) (rw keys_marked (above nat_list_cmp_total last x (is_Less _ e) xs (rw keys_marked at (below_from bytes_cmp x (marked xs) (first_holds _ _ up)))))))
    up)

pub rise_no_more : (last x : List ℕ) (xs : List (List ℕ)) → is_lt (bytes_cmp last x) ≡ false → are_rising (last ∷ x ∷ xs) ≡ false
rise_no_more last x xs e = rw e refl

-- a loop's item
pub rise_at : {K : Type 0} (f : K → List ℕ) (front : List (List ℕ)) (xs : List K) (i : ℕ) (x : K) → i < length xs → x ≡ get_or xs i x → are_rising (front ++ map f (drop i xs)) ≡ are_rising (front ++ f x ∷ map f (drop (i + 1) xs))
rise_at f front xs i x lt is =
    ap (λ l. are_rising (front ++ map f l)) (drop-cons xs i x lt)
    ∙ ap (λ (k : ℕ). are_rising (front ++ f (get_or xs i x) ∷ map f (drop k xs))) (sym (add-one i))
    ∙ ap (λ y. are_rising (front ++ f y ∷ map f (drop (i + 1) xs))) (sym is)

below_keys : {K X : Type 0} (f : K → List ℕ) (g : K → X) (k : List ℕ) (xs : List K) → below_all bytes_cmp k (marked (map f xs)) ≡ below_all bytes_cmp k (map (λ x. (f x, g x)) xs)
below_keys f g k [] = refl
below_keys f g k (x ∷ xs) = ap (λ b. is_lt (bytes_cmp k (f x)) && b) (below_keys f g k xs)

-- entries rise by their keys
pub rise_keys : {K X : Type 0} (f : K → List ℕ) (g : K → X) (xs : List K) → are_rising (map f xs) ≡ is_sorted bytes_cmp (map (λ x. (f x, g x)) xs)
rise_keys f g [] = refl
rise_keys f g (x ∷ xs) = λ i. below_keys f g (f x) xs i && rise_keys f g xs i
