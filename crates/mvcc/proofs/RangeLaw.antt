-- A range whose results rise holds where each of them has its version in the compared part, and each key that may have a row
-- there is a result or absent.
use Rattle.std.proofs.Common.{◌≡◌, ℕ, Bool, true, false, cond, not, ◌&&◌, ◌||◌, List, [], ◌∷◌, ◌++◌, Option, Some, None, T, refl, sym, ap, subst, ◌∙◌}
use Rattle.std.specs.Prelude.{is_some, is_none, IsTrue, IsSome, ◌↔◌}
use Rattle.std.specs.Ordering.{eq_by_cmp}
use Rattle.std.specs.Option.{option_eq}
use Rattle.std.specs.List.{list_all, list_any}
use Rattle.std.specs.Str.{bytes_eq}
use Rattle.std.specs.Cmp.Lexicographic.{bytes_decides}
use Rattle.std.specs.FinMap.{is_sorted}
use Rattle.std.proofs.lemmas.List.Folds.{list_all-append}
use Rattle.transaction.specs.declared.transaction.Version.{Version}
use Rattle.transaction.specs.declared.transaction.Range.{Range}
use Rattle.transaction.specs.declared.transaction.KeyVersion.{KeyVersion}
use Rattle.transaction.specs.Same.{is_same_version}
use Rattle.values.specs.Order.{bytes_cmp}
use Rattle.rules.specs.State.{State, version_in}
use Rattle.rules.specs.Ranges.{is_within, is_compared, results_of, range_holds}
use Rattle.rules.specs.ReadWriteSets.{has_results_in_form}
use Rattle.rules.proofs.Booleans.{both_true}
use Rattle.rules.proofs.Keys.{bytes_ties}
use Rattle.rules.proofs.Ranges.{HoldsAtKey, range_by_keys, version_decides}
use Rattle.mvcc.specs.RangeChecks.{is_found, is_result, is_listed, is_as_found}
use Rattle.mvcc.proofs.Results.{and_true, given, given_where, each_given}

-- ---- tests

-- tests that hold at the same time are one
same_test : (a b : Bool) → (a ≡ true → b ≡ true) → (b ≡ true → a ≡ true) → a ≡ b
same_test true b to from = sym (to refl)
same_test false true to from = from refl
same_test false false to from = refl

each_passes : {X : Type 0} (p : X → Bool) (xs : List X) → ((x : X) → p x ≡ true) → list_all p xs ≡ true
each_passes p [] passes = refl
each_passes p (x ∷ xs) passes = and_true (p x) (list_all p xs) (passes x) (each_passes p xs passes)

-- a key of which all of a list pass the test, and that is in it, passes
one_passes : (p : List ℕ → Bool) (q : List ℕ) (qs : List (List ℕ)) → list_all p qs ≡ true → list_any (bytes_eq q) qs ≡ true → p q ≡ true
one_passes p q [] all among = absurd cc
one_passes p q (x ∷ qs) all among = by (bytes_eq q x) refl (both_true (p x) (list_all p qs) all) (one_passes p q qs) among
  where
    by : (b : Bool) → bytes_eq q x ≡ b → (p x ≡ true) × (list_all p qs ≡ true) → (list_all p qs ≡ true → list_any (bytes_eq q) qs ≡ true → p q ≡ true) → (b || list_any (bytes_eq q) qs) ≡ true → p q ≡ true
    by true is each later among = ap p ((bytes_decides q x).0 is) ∙ each.0
    by false is each later among = later each.1 among

-- ---- what a range asks of a key

same_version : (o : Option Version) (v : Version) → option_eq is_same_version o (Some v) ≡ true → o ≡ Some v
same_version None v e = cc
same_version (Some x) v e = ap Some ((version_decides x v).0 e)

-- a key that is compared and has a version is one of these
abbrev pub Cover : State → List ℕ → Range → List (List ℕ) → Type 0
Cover s namespace r qs = (q : List ℕ) → is_compared r q ≡ true → IsSome (version_in s (namespace, q)) → list_any (bytes_eq q) qs ≡ true

module _ (s : State) (namespace : List ℕ) (r : Range) where
  -- the version that a key of the compared part has
  abbrev there : List ℕ → Option Version
  there q = cond (is_compared r q) (version_in s (namespace, q)) None

  found_there : (xs : List KeyVersion) (q : List ℕ) (v : Version) → list_all (is_found s namespace r) xs ≡ true → given q xs ≡ Some v → there q ≡ Some v
  found_there [] q v all is = absurd cc
  found_there (x ∷ xs) q v all is = by (eq_by_cmp bytes_cmp q x.key) refl (both_true (is_found s namespace r x) (list_all (is_found s namespace r) xs) all) (found_there xs q v) is
    where
      by : (b : Bool) → eq_by_cmp bytes_cmp q x.key ≡ b → (is_found s namespace r x ≡ true) × (list_all (is_found s namespace r) xs ≡ true) → (list_all (is_found s namespace r) xs ≡ true → given q xs ≡ Some v → there q ≡ Some v)
          → cond b (Some x.version) (given q xs) ≡ Some v → there q ≡ Some v
      by true tie each later is =
          let same : q ≡ x.key = (bytes_decides q x.key).0 (sym (bytes_ties q x.key) ∙ tie) in
          let here = both_true (is_compared r x.key) (option_eq is_same_version (version_in s (namespace, x.key)) (Some x.version)) each.0 in
          ap there same ∙ ap (λ (b : Bool). cond b (version_in s (namespace, x.key)) None) here.0 ∙ same_version (version_in s (namespace, x.key)) x.version here.1 ∙ is
      by false tie each later is = later each.1 is

  found_where : (x : KeyVersion) → there x.key ≡ Some x.version → is_found s namespace r x ≡ true
  found_where x is = by (is_compared r x.key) (version_in s (namespace, x.key)) is
    where
      by : (b : Bool) (o : Option Version) → cond b o None ≡ Some x.version → (b && option_eq is_same_version o (Some x.version)) ≡ true
      by true o e = ap (λ (v : Option Version). option_eq is_same_version v (Some x.version)) e ∙ (version_decides x.version x.version).1 refl
      by false o e = absurd cc

  listed_where : (q : List ℕ) → is_result r q ≡ is_some (there q) → is_listed s namespace r q ≡ true
  listed_where q is = by (is_compared r q) (is_result r q) (version_in s (namespace, q)) is
    where
      by : (a l : Bool) (o : Option Version) → l ≡ is_some (cond a o None) → (not a || l || is_none o) ≡ true
      by true true o e = refl
      by true false None e = refl
      by true false (Some v) e = absurd cc
      by false l o e = refl

  module _ (qs : List (List ℕ)) (cover : Cover s namespace r qs) where
    -- a key that is no result has no version in the compared part
    none_there : (q : List ℕ) → list_all (is_listed s namespace r) qs ≡ true → is_result r q ≡ false → ◌≡◌ {A = Option Version} (there q) None
    none_there q all no_result = by (is_compared r q) refl (version_in s (namespace, q)) refl
      where
        by : (b : Bool) → is_compared r q ≡ b → (o : Option Version) → version_in s (namespace, q) ≡ o → ◌≡◌ {A = Option Version} (cond b o None) None
        by false c o v = refl
        by true c None v = refl
        by true c (Some version) v =
            let listed : is_listed s namespace r q ≡ true = one_passes (is_listed s namespace r) q qs all (cover q c (subst (λ (o : Option Version). IsSome o) (sym v) refl)) in
            let plainly : (not true || false || is_none (Some version)) ≡ true = (λ i. not (sym c i) || sym no_result i || is_none (sym v i)) ∙ listed in
            absurd cc

    by_looks : IsTrue (is_sorted bytes_cmp (results_of r)) → range_holds s namespace r ≡ (list_all (is_found s namespace r) r.results && list_all (is_listed s namespace r) qs)
    by_looks rising = same_test (range_holds s namespace r) (list_all (is_found s namespace r) r.results && list_all (is_listed s namespace r) qs) to from
      where
        law : IsTrue (range_holds s namespace r) ↔ ((q : List ℕ) → HoldsAtKey s namespace r q)
        law = range_by_keys s namespace r rising

        to : range_holds s namespace r ≡ true → (list_all (is_found s namespace r) r.results && list_all (is_listed s namespace r) qs) ≡ true
        to holds =
            and_true (list_all (is_found s namespace r) r.results) (list_all (is_listed s namespace r) qs)
            (each_given (is_found s namespace r) r.results (subst T (sym rising) tt) (λ x is. found_where x (law.0 holds x.key ∙ is)))
            (each_passes (is_listed s namespace r) qs (λ q. listed_where q (sym (given_where q r.results) ∙ ap (λ (o : Option Version). is_some o) (sym (law.0 holds q)))))

        at : (list_all (is_found s namespace r) r.results ≡ true) × (list_all (is_listed s namespace r) qs ≡ true) → (q : List ℕ) (o : Option Version) → given q r.results ≡ o → there q ≡ o
        at each q None is = none_there q each.1 (sym (given_where q r.results) ∙ ap (λ (o : Option Version). is_some o) is)
        at each q (Some v) is = found_there r.results q v each.0 is

        from : (list_all (is_found s namespace r) r.results && list_all (is_listed s namespace r) qs) ≡ true → range_holds s namespace r ≡ true
        from both = law.1 (λ q. at (both_true (list_all (is_found s namespace r) r.results) (list_all (is_listed s namespace r) qs) both) q (given q r.results) refl)

-- over two lists of keys
pub range_by_looks : (s : State) (namespace : List ℕ) (r : Range) (before written : List (List ℕ)) → Cover s namespace r (before ++ written) → IsTrue (has_results_in_form r)
    → range_holds s namespace r ≡ is_as_found s namespace r before written
range_by_looks s namespace r before written cover in_form =
    by_looks s namespace r (before ++ written) cover (both_true (is_sorted bytes_cmp (results_of r)) (list_all (λ x. is_within r.start r.end x.key) r.results) in_form).0
    ∙ ap (λ (b : Bool). list_all (is_found s namespace r) r.results && b) (list_all-append (is_listed s namespace r) before written)
