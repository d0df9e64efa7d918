-- Lists in order, each item once.
use Rattle.std.proofs.Common.{◌≡◌, Bool, true, false, cond, ◌||◌, List, [], ◌∷◌, map, length, Option, Some, None, is_some, refl, sym, ap, ◌∙◌, arith}
use Rattle.std.specs.declared.cmp.Ordering.{Ordering}
use Rattle.std.specs.declared.cmp.Ordering.TheVariants.{Less}
use Rattle.std.specs.Ordering.{eq_by_cmp}
use Rattle.std.specs.Cmp.{IsTotalOrder}
use Rattle.std.specs.List.{AllByRecursion, list_any, dedup_from, dedup}
use Rattle.std.specs.List.Sorted.{IsStrictlySortedBy}
use Rattle.std.specs.FinMap.{IsAntisymmetric, entries, keys, empty, from_entries, len-empty, len-entries, entries-insert, get-from_entries, same_map}
use Rattle.std.specs.FinMap.Entries.{put, by_order, find, is_some-find}

-- the entries of a set
abbrev pub marked : {K : Type 0} → List K → List (K × Unit {0})
marked ks = map (λ k. (k, tt)) ks

pub keys_marked : {K : Type 0} (ks : List K) → map (λ e. e.0) (marked ks) ≡ ks
keys_marked [] = refl
keys_marked (k ∷ ks) = ap (λ l. k ∷ l) (keys_marked ks)

no_entries : {A : Type 0} (es : List A) → length es ≡ 0 → es ≡ []
no_entries [] e = refl
no_entries (x ∷ es) e = absurd (omega arith)

same_mark : (a b : Option (Unit {0})) → is_some a ≡ is_some b → a ≡ b
same_mark None None e = refl
same_mark (Some u) (Some v) e = refl
same_mark None (Some v) e = cc
same_mark (Some u) None e = cc

-- ---- `dedup`

-- a test that has one result for items that are the same
abbrev Respects : {X : Type 0} → (X → X → Bool) → (X → Bool) → Type 0
Respects {X} E p = (x y : X) → E x y ≡ true → p x ≡ p y

again : (a b c : Bool) → b ≡ a → (a || c) ≡ (a || (b || c))
again true b c e = refl
again false b c e = rw e refl

any_dedup_from : {X : Type 0} {E : X → X → Bool} (p : X → Bool) → Respects E p → (xs : List X) (k : X) → list_any p (dedup_from E k xs) ≡ (p k || list_any p xs)
any_dedup_from p same [] k = refl
any_dedup_from {E = E} p same (x ∷ xs) k =
    elim (E x k) as (λ b. E x k ≡ b → list_any p (cond b (dedup_from E k xs) (k ∷ dedup_from E x xs)) ≡ (p k || (p x || list_any p xs))) [
      | true ↦ λ e. any_dedup_from p same xs k ∙ again (p k) (p x) (list_any p xs) (same x k e)
      | false ↦ λ _. ap (λ b. p k || b) (any_dedup_from p same xs x)
    ] refl

pub any_dedup : {X : Type 0} {E : X → X → Bool} (p : X → Bool) → Respects E p → (xs : List X) → list_any p (dedup E xs) ≡ list_any p xs
any_dedup p same [] = refl
any_dedup p same (x ∷ xs) = any_dedup_from p same xs x

-- ---- the list of a set

module _ {K : Type 0} {R : K → K → Ordering} (o : IsTotalOrder R) where
  put_first : (k : K) (ks : List K) → AllByRecursion (λ y. R k y ≡ Less) ks → put R k tt (marked ks) ≡ marked (k ∷ ks)
  put_first k [] h = refl
  put_first k (x ∷ xs) h = ap (λ r. by_order r ((k, tt) ∷ marked (x ∷ xs)) ((x, tt) ∷ marked xs) ((x, tt) ∷ put R k tt (marked xs))) h.0

  entries_in_order : (ks : List K) → IsStrictlySortedBy R ks → entries (from_entries {R = R} (marked ks)) ≡ marked ks
  unfolding IsStrictlySortedBy
  entries_in_order [] h = no_entries _ (sym (len-entries (empty {R = R})) ∙ len-empty R (Unit {0}))
  entries_in_order (k ∷ ks) h = entries-insert o _ k tt ∙ ap (put R k tt) (entries_in_order ks h.1) ∙ put_first k ks h.0

  -- a list that strictly rises is the list of its own set
  pub list_of_set : (ks : List K) → IsStrictlySortedBy R ks → keys (from_entries {R = R} (marked ks)) ≡ ks
  list_of_set ks h = ap (map (λ e. e.0)) (entries_in_order ks h) ∙ keys_marked ks

  pub find_marked : (ks : List K) (q : K) → is_some (find R q (marked ks)) ≡ list_any (eq_by_cmp R q) ks
  find_marked ks q = is_some-find R q (marked ks) ∙ ap (list_any (eq_by_cmp R q)) (keys_marked ks)

  -- lists of the same items are one set
  pub same_sets : IsAntisymmetric R → (xs ys : List K) → ((q : K) → list_any (eq_by_cmp R q) xs ≡ list_any (eq_by_cmp R q) ys) → from_entries {R = R} (marked xs) ≡ from_entries {R = R} (marked ys)
  same_sets same xs ys each =
      same_map o same _ _ (λ q. get-from_entries o (marked xs) q ∙ same_mark _ _ (find_marked xs q ∙ each q ∙ sym (find_marked ys q)) ∙ sym (get-from_entries o (marked ys) q))

  -- a list that strictly rises is the list of the set of the same items
  pub only_order : IsAntisymmetric R → (xs ys : List K) → IsStrictlySortedBy R ys → ((q : K) → list_any (eq_by_cmp R q) xs ≡ list_any (eq_by_cmp R q) ys) → ys ≡ keys (from_entries {R = R} (marked xs))
  only_order same xs ys up each = sym (list_of_set ys up) ∙ ap keys (sym (same_sets same xs ys each))
