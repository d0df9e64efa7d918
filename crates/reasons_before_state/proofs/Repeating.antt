-- The labels behind an item, as a list and as a set.
use Rattle.std.proofs.Common.{◌≡◌, ℕ, suc, ◌-◌, ◌<◌, ◌≤◌, Bool, true, false, cond, not, ◌||◌, if◌then◌else◌, List, ◌∷◌, length, drop, get_or, map, Bor, Some, refl, sym, ap, ◌∙◌, drop-cons, arith}
use Rattle.std.specs.List.{list_any}
use Rattle.std.specs.Str.{bytes_eq}
use Rattle.std.specs.Cmp.{eq_by_cmp_equiv}
use Rattle.std.specs.Cmp.Lexicographic.{nat_list_cmp_total}
use Rattle.rules.proofs.Keys.{bytes_ties}
use Rattle.candidates.proofs.Distinct.{any_map}
use Rattle.reasons.specs.Form.{first_repeated}
use Rattle.reasons_before_state.specs.Labels.{HaveSameLabels}

not_not : (b : Bool) → not (not b) ≡ b
not_not true = refl
not_not false = refl

turned : (x y : List ℕ) → bytes_eq x y ≡ bytes_eq y x
turned x y = sym (bytes_ties x y) ∙ (eq_by_cmp_equiv nat_list_cmp_total).symm x y ∙ bytes_ties y x

either : (a b : Bool) → (a || b) ≡ cond a true b
either true b = refl
either false b = refl

-- what isn't new was there
pub was_there : (keys : List (Bor (List ℕ))) (label : List ℕ) (is_new : Bool) → is_new ≡ not (list_any (λ k. bytes_eq label k.now) keys) → not is_new ≡ list_any (bytes_eq label) (map (λ k. k.now) keys)
was_there keys label is_new e = ap not e ∙ not_not _ ∙ sym (any_map (λ k. k.now) label keys)

-- the set with one label more
pub one_more : (old new : List (Bor (List ℕ))) (label x : List ℕ)
    → list_any (λ k. bytes_eq x k.now) new ≡ cond (bytes_eq label x) true (list_any (λ k. bytes_eq x k.now) old)
    → (bytes_eq x label || list_any (bytes_eq x) (map (λ k. k.now) old)) ≡ list_any (bytes_eq x) (map (λ k. k.now) new)
one_more old new label x h =
    (λ i. turned x label i || any_map (λ k. k.now) x old i)
    ∙ either (bytes_eq label x) (list_any (λ k. bytes_eq x k.now) old)
    ∙ sym h
    ∙ sym (any_map (λ k. k.now) x new)

-- from the back to the front: an item that goes before those that are known
module _ {X : Type 0} (f : X → List ℕ) (items : List X) (i : ℕ) (item : X) where
  shown_from : 0 < i → i ≤ length items → item ≡ get_or items (i - 1) item → map f (drop (i - 1) items) ≡ f item ∷ map f (drop i items)
  shown_from some bound at =
      let lt : i - 1 < length items = omega (arith, some, bound) in
      let next : suc (i - 1) ≡ i = omega (arith, some) in
      ap (map f) (drop-cons items (i - 1) item lt)
      ∙ ap (λ (k : ℕ). f (get_or items (i - 1) item) ∷ map f (drop k items)) next
      ∙ ap (λ (y : X). f y ∷ map f (drop i items)) (sym at)

  pub same_from : (label : List ℕ) (old new : List (List ℕ)) → 0 < i → i ≤ length items → item ≡ get_or items (i - 1) item → label ≡ f item
      → HaveSameLabels (map f (drop i items)) old → HaveSameLabels (label ∷ old) new → HaveSameLabels (map f (drop (i - 1) items)) new
  same_from label old new some bound at is same put x =
      ap (list_any (bytes_eq x)) (shown_from some bound at) ∙ (λ j. bytes_eq x (sym is j) || same x j) ∙ put x

  pub repeated_from : (label : List ℕ) (old : List (List ℕ)) (again : Bool) → 0 < i → i ≤ length items → item ≡ get_or items (i - 1) item → label ≡ f item
      → HaveSameLabels (map f (drop i items)) old → again ≡ list_any (bytes_eq label) old
      → first_repeated (map f (drop (i - 1) items)) ≡ (if again then Some (f item) else first_repeated (map f (drop i items)))
  repeated_from label old again some bound at is same there =
      ap first_repeated (shown_from some bound at)
      ∙ ap (λ (b : Bool). if b then Some (f item) else first_repeated (map f (drop i items))) (same (f item) ∙ ap (λ (l : List ℕ). list_any (bytes_eq l) old) (sym is) ∙ sym there)
