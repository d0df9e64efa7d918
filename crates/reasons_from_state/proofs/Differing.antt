-- The least key that differs is the first difference.
use Rattle.std.proofs.Common.{◌≡◌, ◌≢◌, ◌⊎◌, inl, inr, ℕ, Bool, true, false, cond, not, ◌&&◌, ◌||◌, List, [], ◌∷◌, ◌++◌, map, Option, Some, None, Ordering, Less, Equal, Greater, is_lt, refl, sym, ap, subst, ◌∙◌}
use Rattle.std.specs.Prelude.{IsSome}
use Rattle.std.specs.List.{list_any}
use Rattle.std.specs.Option.{option_eq}
use Rattle.std.specs.Str.{bytes_eq}
use Rattle.std.specs.Cmp.{tied_itself}
use Rattle.std.specs.Cmp.Lexicographic.{nat_list_cmp_total, bytes_decides}
use Rattle.std.specs.FinMap.{find}
use Rattle.std.proofs.lemmas.List.Folds.{list_any-append}
use Rattle.transaction.specs.declared.transaction.KeyVersion.{KeyVersion}
use Rattle.transaction.specs.declared.transaction.Range.{Range}
use Rattle.transaction.specs.declared.transaction.Version.{Version}
use Rattle.transaction.specs.Same.{is_same_version}
use Rattle.values.specs.Order.{bytes_cmp}
use Rattle.rules.specs.State.{State, version_in}
use Rattle.rules.specs.Ranges.{is_compared}
use Rattle.rules.specs.Job.{Job}
use Rattle.rules.specs.Fold.{running}
use Rattle.rules.specs.Assignment.{Assignment, state_under}
use Rattle.rules.proofs.Booleans.{neither, or-true}
use Rattle.rules.proofs.Bridge.{valid, state_under-valid}
use Rattle.rules.proofs.Keys.{bytes_ties}
use Rattle.rules.proofs.Ranges.{version_decides}
use Rattle.reasons.specs.Ranges.{version_there, version_read, IsFirstDifference}
use Rattle.reasons_from_state.specs.Differences.{differs_at, lesser, least_where}

either : (a b : Bool) → (a || b) ≡ true → (a ≡ true) ⊎ (b ≡ true)
either true b e = inl refl
either false b e = inr e

-- ---- versions

same_if : (a b : Option Version) → not (option_eq is_same_version a b) ≡ false → a ≡ b
same_if None None e = refl
same_if None (Some y) e = absurd cc
same_if (Some x) None e = absurd cc
same_if (Some x) (Some y) e = by (is_same_version x y) refl e
  where
    by : (b : Bool) → is_same_version x y ≡ b → not b ≡ false → Some x ≡ Some y
    by true is e = ap (λ (v : Version). Some v) ((version_decides x y).0 is)
    by false is e = absurd cc

own : (a : Option Version) → not (option_eq is_same_version a a) ≡ false
own None = refl
own (Some x) = ap not ((version_decides x x).1 refl)

other_if : (a b : Option Version) → not (option_eq is_same_version a b) ≡ true → a ≢ b
other_if a b e same = let clash : not (option_eq is_same_version a b) ≡ false = ap (λ (x : Option Version). not (option_eq is_same_version a x)) (sym same) ∙ own a in absurd cc

-- ---- the least of some keys

abbrev IsLeast : (List ℕ → Bool) → (List ℕ → Bool) → Option (List ℕ) → Type 0
IsLeast test among None = (k : List ℕ) → among k ≡ true → test k ≡ false
IsLeast test among (Some m) = (test m ≡ true) × ((k : List ℕ) → among k ≡ true → bytes_cmp k m ≡ Less → test k ≡ false)

fewer : (test among some : List ℕ → Bool) (least : Option (List ℕ)) → ((k : List ℕ) → some k ≡ true → among k ≡ true) → IsLeast test among least → IsLeast test some least
fewer test among some None within is = λ k s. is k (within k s)
fewer test among some (Some m) within is = (is.0, λ k s lt. is.1 k (within k s) lt)

not_below_itself : (k : List ℕ) → bytes_cmp k k ≡ Less → ⊥
not_below_itself k lt = let tied : bytes_cmp k k ≡ Equal = tied_itself nat_list_cmp_total k in absurd (cc (sym lt ∙ tied))

is_Less : (o : Ordering) → is_lt o ≡ true → o ≡ Less
is_Less Less e = refl
is_Less Equal e = absurd cc
is_Less Greater e = absurd cc

module _ (test among : List ℕ → Bool) (x : List ℕ) where
  abbrev more : List ℕ → Bool
  more k = bytes_eq k x || among k

  is_it : (k : List ℕ) → bytes_eq k x ≡ true → k ≡ x
  is_it k e = (bytes_decides k x).0 e

  step : (least : Option (List ℕ)) → IsLeast test among least → IsLeast test more (lesser test least x)
  step None is = by (test x) refl
    where
      by : (b : Bool) → test x ≡ b → IsLeast test more (cond b (Some x) None)
      by true e = (e, λ k s lt. all k lt (either (bytes_eq k x) (among k) s))
        where
          all : (k : List ℕ) → bytes_cmp k x ≡ Less → (bytes_eq k x ≡ true) ⊎ (among k ≡ true) → test k ≡ false
          all k lt (inl same) = absurd (not_below_itself x (ap (λ (z : List ℕ). bytes_cmp z x) (sym (is_it k same)) ∙ lt))
          all k lt (inr s) = is k s
      by false e = λ k s. all k (either (bytes_eq k x) (among k) s)
        where
          all : (k : List ℕ) → (bytes_eq k x ≡ true) ⊎ (among k ≡ true) → test k ≡ false
          all k (inl same) = ap test (is_it k same) ∙ e
          all k (inr s) = is k s
  step (Some m) is = by (is_lt (bytes_cmp x m)) refl (test x) refl
    where
      by : (a : Bool) → is_lt (bytes_cmp x m) ≡ a → (b : Bool) → test x ≡ b → IsLeast test more (cond (a && b) (Some x) (Some m))
      by true ahead true e = (e, λ k s lt. all k lt (either (bytes_eq k x) (among k) s))
        where
          all : (k : List ℕ) → bytes_cmp k x ≡ Less → (bytes_eq k x ≡ true) ⊎ (among k ≡ true) → test k ≡ false
          all k lt (inl same) = absurd (not_below_itself x (ap (λ (z : List ℕ). bytes_cmp z x) (sym (is_it k same)) ∙ lt))
          all k lt (inr s) = is.1 k s (nat_list_cmp_total.trans k x m lt (is_Less (bytes_cmp x m) ahead))
      by true ahead false e = (is.0, λ k s lt. all k lt (either (bytes_eq k x) (among k) s))
        where
          all : (k : List ℕ) → bytes_cmp k m ≡ Less → (bytes_eq k x ≡ true) ⊎ (among k ≡ true) → test k ≡ false
          all k lt (inl same) = ap test (is_it k same) ∙ e
          all k lt (inr s) = is.1 k s lt
      by false behind b e = (is.0, λ k s lt. all k lt (either (bytes_eq k x) (among k) s))
        where
          all : (k : List ℕ) → bytes_cmp k m ≡ Less → (bytes_eq k x ≡ true) ⊎ (among k ≡ true) → test k ≡ false
          all k lt (inl same) = let clash : is_lt (bytes_cmp x m) ≡ true = ap (λ (z : List ℕ). is_lt (bytes_cmp z m)) (sym (is_it k same)) ∙ ap is_lt lt in absurd (cc (sym behind ∙ clash))
          all k lt (inr s) = is.1 k s lt

-- the key moves from the list to those that were looked at
moved : (a b c : Bool) → ((a || b) || c) ≡ true → (b || (a || c)) ≡ true
moved true b c e = or-true b
moved false b c e = e

least_is : (test among : List ℕ → Bool) (least : Option (List ℕ)) (keys : List (List ℕ)) → IsLeast test among least → IsLeast test (λ k. list_any (bytes_eq k) keys || among k) (least_where test least keys)
least_is test among least [] is = is
least_is test among least (x ∷ keys) is =
    fewer test (λ k. list_any (bytes_eq k) keys || (bytes_eq k x || among k)) (λ k. (bytes_eq k x || list_any (bytes_eq k) keys) || among k) (least_where test (lesser test least x) keys)
    (λ k s. moved (bytes_eq k x) (list_any (bytes_eq k) keys) (among k) s)
    (least_is test (λ k. bytes_eq k x || among k) (lesser test least x) keys (step test among x least is))

-- ---- of two look-ups that are the same at all other keys

abbrev IsWhere : (there read : List ℕ → Option Version) → Option (List ℕ) → Type 0
IsWhere there read None = (k : List ℕ) → there k ≡ read k
IsWhere there read (Some m) = IsFirstDifference there read m

module _ (there read : List ℕ → Option Version) (keys : List (List ℕ)) (others : (k : List ℕ) → list_any (bytes_eq k) keys ≡ false → there k ≡ read k) where
  same_at : (k : List ℕ) → (list_any (bytes_eq k) keys ≡ true → differs_at there read k ≡ false) → there k ≡ read k
  same_at k listed = by (list_any (bytes_eq k) keys) refl
    where
      by : (b : Bool) → list_any (bytes_eq k) keys ≡ b → there k ≡ read k
      by true e = same_if (there k) (read k) (listed e)
      by false e = others k e

  in_list : (k : List ℕ) → list_any (bytes_eq k) keys ≡ true → (list_any (bytes_eq k) keys || false) ≡ true
  in_list k e = ap (λ (b : Bool). b || false) e

  pub where_they_differ : (o : Option (List ℕ)) → o ≡ least_where (differs_at there read) None keys → IsWhere there read o
  where_they_differ o is = by o (subst (λ (x : Option (List ℕ)). IsLeast (differs_at there read) (λ k. list_any (bytes_eq k) keys || false) x) (sym is) (least_is (differs_at there read) (λ k. false) None keys (λ k none. absurd cc)))
    where
      by : (o : Option (List ℕ)) → IsLeast (differs_at there read) (λ k. list_any (bytes_eq k) keys || false) o → IsWhere there read o
      by None least = λ k. same_at k (λ e. least k (in_list k e))
      by (Some m) least = record {
        differs = other_if (there m) (read m) least.0;
        same_before = λ k lt. same_at k (λ e. least.1 k (in_list k e) lt);
      }

-- ---- of a range

unread : (k : List ℕ) (xs : List KeyVersion) → list_any (bytes_eq k) (map (λ x. x.key) xs) ≡ false → ◌≡◌ {A = Option Version} (find bytes_cmp k (map (λ x. (x.key, x.version)) xs)) None
unread k [] e = refl
unread k (x ∷ xs) e =
    let apart = neither (bytes_eq k x.key) (list_any (bytes_eq k) (map (λ y. y.key) xs)) e in
    ap (λ (b : Bool). cond b (Some x.version) (find bytes_cmp k (map (λ y. (y.key, y.version)) xs))) (bytes_ties k x.key ∙ apart.0) ∙ unread k xs apart.1

absent : (o : Option Version) → (IsSome o → ⊥) → o ≡ None
absent None never = refl
absent (Some v) never = absurd (never refl)

pub others_are_same : (j : Job) (i : ℕ) (namespace : List ℕ) (r : Range) (kept keys : List (List ℕ))
    → ((called : Assignment) (n : ℕ) (q : List ℕ) → is_compared r q ≡ true → IsSome (version_in (state_under j called n) (namespace, q)) → list_any (bytes_eq q) kept ≡ true)
    → keys ≡ kept ++ map (λ x. x.key) r.results → (k : List ℕ) → list_any (bytes_eq k) keys ≡ false → version_there (running j i).state namespace r k ≡ version_read r k
others_are_same j i namespace r kept keys covers all k none = by (is_compared r k) refl ∙ sym (unread k r.results apart.1)
  where
    apart : (list_any (bytes_eq k) kept ≡ false) × (list_any (bytes_eq k) (map (λ x. x.key) r.results) ≡ false)
    apart = neither _ _ (sym (list_any-append (bytes_eq k) kept (map (λ x. x.key) r.results)) ∙ ap (list_any (bytes_eq k)) (sym all) ∙ none)

    by : (b : Bool) → is_compared r k ≡ b → cond b (version_in (running j i).state (namespace, k)) None ≡ None
    by false e = refl
    by true e = absent (version_in (running j i).state (namespace, k)) (λ some.
        let here = covers (valid j) i k e (subst (λ (s : State). IsSome (version_in s (namespace, k))) (sym (state_under-valid j i)) some) in
        absurd (cc (sym here ∙ apart.0)))
