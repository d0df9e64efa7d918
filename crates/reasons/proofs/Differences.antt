-- Two lists of versions in the order of their keys that aren't the same have a first key that differs.
use Rattle.std.proofs.Common.{◌≡◌, ◌≢◌, ℕ, Bool, true, false, cond, ◌&&◌, T, List, [], ◌∷◌, Option, Some, None, Ordering, Less, Equal, Greater, is_lt, is_eq, refl, sym, ap, subst, ◌∙◌}
use Rattle.std.specs.Ordering.{ordering_reverse}
use Rattle.std.specs.Str.{bytes_eq}
use Rattle.std.specs.Cmp.{IsTotalOrder, tied_itself, alike_right}
use Rattle.std.specs.Cmp.Lexicographic.{pointwise, nat_list_cmp_total, bytes_decides}
use Rattle.std.specs.FinMap.{find, is_sorted}
use Rattle.std.specs.FinMap.Entries.{below_all, by_order}
use Rattle.transaction.specs.declared.transaction.Range.{Range}
use Rattle.transaction.specs.declared.transaction.Version.{Version}
use Rattle.transaction.specs.Same.{is_same_version}
use Rattle.values.specs.Order.{bytes_cmp}
use Rattle.rules.specs.State.{State}
use Rattle.rules.specs.Ranges.{versions_now, results_of, is_same_result}
use Rattle.rules.proofs.Booleans.{both_true}
use Rattle.rules.proofs.Keys.{bytes_ties}
use Rattle.rules.proofs.Ranges.{find-versions_now, sorted-versions_now, version_decides}
use Rattle.reasons.specs.Ranges.{version_there, version_read, IsFirstDifference}
use Rattle.reasons.proofs.Lists.{some_is, some_and_none, and-same}

abbrev Versions : Type 0
Versions = List (List ℕ × Version)

-- the lesser key at the first place where the lists part
abbrev pub parted_at : Versions → Versions → Option (List ℕ)
parted_at [] [] = None
parted_at (a ∷ there) [] = Some a.0
parted_at [] (b ∷ read) = Some b.0
parted_at (a ∷ there) (b ∷ read) = cond (is_same_result a b) (parted_at there read) (Some (by_order (bytes_cmp a.0 b.0) a.0 a.0 b.0))

pub parted_if : (there read : Versions) → pointwise is_same_result there read ≡ false → (key : List ℕ) × (parted_at there read ≡ Some key)
parted_if [] [] e = absurd cc
parted_if (a ∷ there) [] e = (a.0, refl)
parted_if [] (b ∷ read) e = (b.0, refl)
parted_if (a ∷ there) (b ∷ read) e = by (is_same_result a b) e (parted_if there read)
  where
    by : (same : Bool) → (same && pointwise is_same_result there read) ≡ false
        → (pointwise is_same_result there read ≡ false → (key : List ℕ) × (parted_at there read ≡ Some key))
        → (key : List ℕ) × (cond same (parted_at there read) (Some (by_order (bytes_cmp a.0 b.0) a.0 a.0 b.0)) ≡ Some key)
    by true e rest = rest e
    by false e rest = (by_order (bytes_cmp a.0 b.0) a.0 a.0 b.0, refl)

-- ---- look-ups

pub is_Less : (o : Ordering) → is_lt o ≡ true → o ≡ Less
is_Less Less e = refl
is_Less Equal e = absurd cc
is_Less Greater e = absurd cc

abbrev look : Versions → List ℕ → Option Version
look vs k = find bytes_cmp k vs

some_is_there : (v : Version) (o : Option Version) → o ≡ None → Some v ≢ o
some_is_there v o none e = some_and_none v (e ∙ none)

none_is_absent : (v : Version) (o : Option Version) → o ≡ None → o ≢ Some v
none_is_absent v o none e = some_and_none v (sym e ∙ none)

module _ (o : IsTotalOrder bytes_cmp) where
  -- a list of greater keys doesn't have it
  look-below : (k : List ℕ) (es : Versions) → below_all bytes_cmp k es ≡ true → look es k ≡ None
  look-below k [] h = refl
  look-below k (e ∷ es) h =
      let both = both_true (is_lt (bytes_cmp k e.0)) (below_all bytes_cmp k es) h in
      ap (λ (r : Ordering). cond (is_eq r) (Some e.1) (look es k)) (is_Less (bytes_cmp k e.0) both.0) ∙ look-below k es both.1

  pub lower : (x y : List ℕ) → bytes_cmp x y ≡ Less → (es : Versions) → below_all bytes_cmp y es ≡ true → below_all bytes_cmp x es ≡ true
  lower x y e [] h = refl
  lower x y e (z ∷ es) h =
      let both = both_true (is_lt (bytes_cmp y z.0)) (below_all bytes_cmp y es) h in
      and-same (ap is_lt (o.trans x y z.0 e (is_Less (bytes_cmp y z.0) both.0))) (lower x y e es both.1)

  -- nor a list in order whose first key is greater
  look-before : (k : List ℕ) (e : List ℕ × Version) (es : Versions) → is_sorted bytes_cmp (e ∷ es) ≡ true → bytes_cmp k e.0 ≡ Less → look (e ∷ es) k ≡ None
  look-before k e es sorted less =
      let rest = lower k e.0 less es (both_true (below_all bytes_cmp e.0 es) (is_sorted bytes_cmp es) sorted).0 in
      ap (λ (r : Ordering). cond (is_eq r) (Some e.1) (look es k)) less ∙ look-below k es rest

  look-first : (e : List ℕ × Version) (es : Versions) → look (e ∷ es) e.0 ≡ Some e.1
  look-first e es = ap (λ (r : Ordering). cond (is_eq r) (Some e.1) (look es e.0)) (tied_itself o e.0)

  -- ---- where the first keys aren't the same result

  module _ (a b : List ℕ × Version) (xs ys : Versions) (up : is_sorted bytes_cmp (a ∷ xs) ≡ true) (up' : is_sorted bytes_cmp (b ∷ ys) ≡ true) where
    first_is_there : bytes_cmp a.0 b.0 ≡ Less → IsFirstDifference (look (a ∷ xs)) (look (b ∷ ys)) a.0
    first_is_there less = record {
      differs = λ e. some_is_there a.1 (look (b ∷ ys) a.0) (look-before a.0 b ys up' less) (sym (look-first a xs) ∙ e);
      same_before = λ k lt. look-before k a xs up lt ∙ sym (look-before k b ys up' (o.trans k a.0 b.0 lt less));
    }

    first_is_read : bytes_cmp b.0 a.0 ≡ Less → IsFirstDifference (look (a ∷ xs)) (look (b ∷ ys)) b.0
    first_is_read less = record {
      differs = λ e. none_is_absent b.1 (look (a ∷ xs) b.0) (look-before b.0 a xs up less) (e ∙ look-first b ys);
      same_before = λ k lt. look-before k a xs up (o.trans k b.0 a.0 lt less) ∙ sym (look-before k b ys up' lt);
    }

    same_result : bytes_cmp a.0 b.0 ≡ Equal → a.1 ≡ b.1 → is_same_result a b ≡ true
    same_result tied e = and-same (sym (bytes_ties a.0 b.0) ∙ ap is_eq tied) ((version_decides a.1 b.1).1 e)

    first_has_another : is_same_result a b ≡ false → bytes_cmp a.0 b.0 ≡ Equal → IsFirstDifference (look (a ∷ xs)) (look (b ∷ ys)) a.0
    first_has_another other tied = record {
      differs = λ e.
          let found : look (b ∷ ys) a.0 ≡ Some b.1 = ap (λ (r : Ordering). cond (is_eq r) (Some b.1) (look ys a.0)) tied in
          let clash = sym other ∙ same_result tied (some_is a.1 b.1 (sym (look-first a xs) ∙ e ∙ found)) in
          absurd cc;
      same_before = λ k lt. look-before k a xs up lt ∙ sym (look-before k b ys up' (sym (alike_right o a.0 b.0 k tied) ∙ lt));
    }

  -- ---- and behind one that is the same

  behind : (a : List ℕ × Version) (xs ys : Versions) → below_all bytes_cmp a.0 xs ≡ true → below_all bytes_cmp a.0 ys ≡ true → (key : List ℕ)
      → IsFirstDifference (look xs) (look ys) key → IsFirstDifference (look (a ∷ xs)) (look (a ∷ ys)) key
  behind a xs ys below below' key first = record {
    differs = differs (is_eq (bytes_cmp key a.0)) refl;
    same_before = λ k lt. same (is_eq (bytes_cmp k a.0)) (look xs k) (look ys k) (first.same_before k lt);
  }
    where
      same : (b : Bool) (p q : Option Version) → p ≡ q → cond b (Some a.1) p ≡ cond b (Some a.1) q
      same true p q e = refl
      same false p q e = e

      differs : (b : Bool) → is_eq (bytes_cmp key a.0) ≡ b → cond b (Some a.1) (look xs key) ≢ cond b (Some a.1) (look ys key)
      differs true tied e =
          let key_is : key ≡ a.0 = (bytes_decides key a.0).0 (sym (bytes_ties key a.0) ∙ tied) in
          first.differs (ap (look xs) key_is ∙ look-below a.0 xs below ∙ sym (ap (look ys) key_is ∙ look-below a.0 ys below'))
      differs false apart e = first.differs e

  parted_first : (there read : Versions) → is_sorted bytes_cmp there ≡ true → is_sorted bytes_cmp read ≡ true → (key : List ℕ) → parted_at there read ≡ Some key → IsFirstDifference (look there) (look read) key
  parted_first [] [] up up' key e = absurd cc
  parted_first (a ∷ xs) [] up up' key e =
      let is : a.0 ≡ key = some_is a.0 key e in
      subst (IsFirstDifference (look (a ∷ xs)) (look [])) is (record {
        differs = λ d. some_is_there a.1 None refl (sym (look-first a xs) ∙ d);
        same_before = λ k lt. look-before k a xs up lt;
      })
  parted_first [] (b ∷ ys) up up' key e =
      let is : b.0 ≡ key = some_is b.0 key e in
      subst (IsFirstDifference (look []) (look (b ∷ ys))) is (record {
        differs = λ d. none_is_absent b.1 None refl (d ∙ look-first b ys);
        same_before = λ k lt. sym (look-before k b ys up' lt);
      })
  parted_first (a ∷ xs) (b ∷ ys) up up' key e =
      by (is_same_result a b) refl e (parted_first xs ys (both_true (below_all bytes_cmp a.0 xs) (is_sorted bytes_cmp xs) up).1 (both_true (below_all bytes_cmp b.0 ys) (is_sorted bytes_cmp ys) up').1 key)
    where
      by_keys : (r : Ordering) → bytes_cmp a.0 b.0 ≡ r → is_same_result a b ≡ false → by_order r a.0 a.0 b.0 ≡ key → IsFirstDifference (look (a ∷ xs)) (look (b ∷ ys)) key
      by_keys Less less other is = subst (IsFirstDifference (look (a ∷ xs)) (look (b ∷ ys))) is (first_is_there a b xs ys up up' less)
      by_keys Equal tied other is = subst (IsFirstDifference (look (a ∷ xs)) (look (b ∷ ys))) is (first_has_another a b xs ys up up' other tied)
      by_keys Greater more other is = subst (IsFirstDifference (look (a ∷ xs)) (look (b ∷ ys))) is (first_is_read a b xs ys up up' (o.antisymm b.0 a.0 ∙ ap ordering_reverse more))

      by : (same : Bool) → is_same_result a b ≡ same → cond same (parted_at xs ys) (Some (by_order (bytes_cmp a.0 b.0) a.0 a.0 b.0)) ≡ Some key
          → (parted_at xs ys ≡ Some key → IsFirstDifference (look xs) (look ys) key) → IsFirstDifference (look (a ∷ xs)) (look (b ∷ ys)) key
      by true same e rest =
          let parts = both_true (bytes_eq a.0 b.0) (is_same_version a.1 b.1) same in
          let one : a ≡ b = λ t. ((bytes_decides a.0 b.0).0 parts.0 t, (version_decides a.1 b.1).0 parts.1 t) in
          let below = (both_true (below_all bytes_cmp a.0 xs) (is_sorted bytes_cmp xs) up).0 in
          let below' = (both_true (below_all bytes_cmp b.0 ys) (is_sorted bytes_cmp ys) up').0 in
          subst (λ (x : List ℕ × Version). IsFirstDifference (look (a ∷ xs)) (look (x ∷ ys)) key) one
          (behind a xs ys below (subst (λ (x : List ℕ × Version). below_all bytes_cmp x.0 ys ≡ true) (sym one) below') key (rest e))
      by false other e rest = by_keys (bytes_cmp a.0 b.0) refl other (some_is _ _ e)

-- ---- of a range

is_true : (b : Bool) → T b → b ≡ true
is_true true h = refl
is_true false h = absurd h

pub first_difference : (s : State) (namespace : List ℕ) (r : Range) → is_sorted bytes_cmp (results_of r) ≡ true → (key : List ℕ) → parted_at (versions_now s namespace r) (results_of r) ≡ Some key
    → IsFirstDifference (version_there s namespace r) (version_read r) key
first_difference s namespace r rising key e =
    let first = parted_first nat_list_cmp_total (versions_now s namespace r) (results_of r) (is_true _ (sorted-versions_now s namespace r)) rising key e in
    record {
      differs = λ d. first.differs (find-versions_now s namespace r key ∙ d);
      same_before = λ k lt. sym (find-versions_now s namespace r k) ∙ first.same_before k lt;
    }

-- ---- no two keys are the first

pub one_first_difference : (there read : List ℕ → Option Version) (k l : List ℕ) → IsFirstDifference there read k → IsFirstDifference there read l → k ≡ l
one_first_difference there read k l x y = by nat_list_cmp_total (bytes_cmp k l) refl
  where
    by : IsTotalOrder bytes_cmp → (r : Ordering) → bytes_cmp k l ≡ r → k ≡ l
    by o Less less = absurd (x.differs (y.same_before k less))
    by o Equal tied = (bytes_decides k l).0 (sym (bytes_ties k l) ∙ ap is_eq tied)
    by o Greater more = absurd (y.differs (x.same_before l (o.antisymm l k ∙ ap ordering_reverse more)))
