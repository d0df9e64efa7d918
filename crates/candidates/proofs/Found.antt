-- Finding items by labels of which no two are the same.
use Rattle.std.proofs.Common.{◌≡◌, ℕ, Bool, true, false, not, cond, List, [], ◌∷◌, map, Some, sym, ap, ◌∙◌}
use Rattle.std.specs.Str.{bytes_eq}
use Rattle.std.specs.Cmp.Lexicographic.{nat_list_eq_equiv}
use Rattle.std.specs.List.{AllByRecursion, find, list_any}
use Rattle.rules.specs.ReadWriteSets.{are_distinct}
use Rattle.candidates.proofs.Rising.{first_holds, second_holds}
use Rattle.candidates.proofs.Distinct.{none_from, any_map}

module _ {K : Type 0} (f : K → List ℕ) where
  abbrev pub at_label : K → K → Bool
  at_label x y = bytes_eq (f x) (f y)

  -- what another list finds by labels that differ from one more item's, it finds with that item too
  later : (x : K) (xs ys : List K) → AllByRecursion (λ y. at_label x y ≡ false) ys → AllByRecursion (λ y. find (at_label y) xs ≡ Some y) ys → AllByRecursion (λ y. find (at_label y) (x ∷ xs) ≡ Some y) ys
  later x xs [] apart found = tt
  later x xs (y ∷ ys) apart found =
      (ap (λ b. cond b (Some x) (find (at_label y) xs)) (nat_list_eq_equiv.symm (f y) (f x) ∙ apart.0) ∙ found.0, later x xs ys apart.1 found.1)

  -- each item is found by its own label
  pub found : (xs : List K) → are_distinct (map f xs) ≡ true → AllByRecursion (λ x. find (at_label x) xs ≡ Some x) xs
  found [] h = tt
  found (x ∷ xs) h = (
    ap (λ b. cond b (Some x) (find (at_label x) xs)) (nat_list_eq_equiv.refl (f x)),
    later x xs xs
        (none_from (at_label x) xs (ap not (sym (any_map f (f x) xs)) ∙ first_holds _ _ h))
        (found xs (second_holds (not (list_any (bytes_eq (f x)) (map f xs))) _ h)),
  )
