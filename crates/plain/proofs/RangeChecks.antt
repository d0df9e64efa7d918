-- A range whose results rise holds where each is a row of the compared part, and each changed key's row there is a result.
use Rattle.std.proofs.Common.{◌≡◌, ℕ, ◌-◌, Bool, true, false, cond, not, ◌&&◌, ◌||◌, List, [], ◌∷◌, ◌++◌, length, Option, Some, None, T, refl, sym, ap, subst, ◌∙◌, arith}
use Rattle.std.specs.Prelude.{option_map, is_some, is_none, IsTrue, ◌↔◌}
use Rattle.std.specs.declared.cmp.Ordering.{Ordering}
use Rattle.std.specs.declared.cmp.Ordering.TheVariants.{Less, Equal, Greater}
use Rattle.std.specs.Ordering.{is_lt, is_eq, eq_by_cmp}
use Rattle.std.specs.Option.{option_eq}
use Rattle.std.specs.List.{last_or, list_all, list_any, slice_get}
use Rattle.std.specs.Str.{bytes_eq}
use Rattle.std.specs.Cmp.Lexicographic.{bytes_decides}
use Rattle.std.specs.FinMap.{get, find, empty, get-empty, is_sorted}
use Rattle.std.specs.FinMap.Entries.{below_all}
use Rattle.std.proofs.lemmas.List.{map-append}
use Rattle.std.proofs.lemmas.List.Folds.{list_all-append}
use Rattle.transaction.specs.declared.transaction.Version.{Version}
use Rattle.transaction.specs.declared.transaction.Range.{Range}
use Rattle.transaction.specs.declared.transaction.KeyVersion.{KeyVersion}
use Rattle.transaction.specs.Same.{is_same_version}
use Rattle.values.specs.Order.{bytes_cmp}
use Rattle.rules.specs.declared.delta.Change.{Change}
use Rattle.rules.specs.declared.row.Row.{Row}
use Rattle.rules.specs.State.{State, StateKey, key_cmp, version_in, is_same_key, with_changes, set_at}
use Rattle.rules.specs.Delta.{change_of, changes_in}
use Rattle.rules.specs.Ranges.{is_within, is_compared, results_of, range_holds}
use Rattle.rules.specs.ReadWriteSets.{has_results_in_form}
use Rattle.rules.proofs.Keys.{bytes_ties, same_key_is}
use Rattle.rules.proofs.Changes.{get-set_at, with_changes-append}
use Rattle.rules.proofs.Ranges.{HoldsAtKey, range_by_keys, version_decides}
use Rattle.plain.specs.RangeChecks.{is_found, is_listed}
use Rattle.plain.proofs.InForm.{versions}

-- the last result
last_from : (x : KeyVersion) (xs : List KeyVersion) → slice_get (x ∷ xs) (length xs) ≡ last_or (Some x) xs
last_from x [] = refl
last_from x (y ∷ ys) = last_from y ys

pub last_is : (xs : List KeyVersion) → slice_get xs (length xs - 1) ≡ last_or None xs
last_is [] = refl
last_is (x ∷ xs) = let e : length (x ∷ xs) - 1 ≡ length xs = omega arith in ap (slice_get (x ∷ xs)) e ∙ last_from x xs

-- ---- tests

-- two tests that hold at the same time are one
same_test : (a b : Bool) → (a ≡ true → b ≡ true) → (b ≡ true → a ≡ true) → a ≡ b
same_test true b to from = sym (to refl)
same_test false true to from = from refl
same_test false false to from = refl

both_true : (a b : Bool) → (a && b) ≡ true → (a ≡ true) × (b ≡ true)
both_true true b e = (refl, e)
both_true false b e = absurd cc

and_true : (a b : Bool) → a ≡ true → b ≡ true → (a && b) ≡ true
and_true a b p q = rw (p, q) refl

-- three tests in a row
pub all_hold : (h a b c : Bool) → h ≡ (a && (b && c)) → a ≡ true → b ≡ true → c ≡ h
all_hold h a b c law p q = sym (law ∙ rw (p, q) refl)

pub first_fails : (h a b c : Bool) → h ≡ (a && (b && c)) → a ≡ false → false ≡ h
first_fails h a b c law p = sym (law ∙ rw p refl)

pub second_fails : (h a b c : Bool) → h ≡ (a && (b && c)) → a ≡ true → b ≡ false → false ≡ h
second_fails h a b c law p q = sym (law ∙ rw (p, q) refl)

all_of : {X : Type 0} (p : X → Bool) (xs : List X) → ((x : X) → p x ≡ true) → list_all p xs ≡ true
all_of p [] h = refl
all_of p (x ∷ xs) h = and_true (p x) (list_all p xs) (h x) (all_of p xs h)

-- one that passes both tests
one_of_both : {X : Type 0} (p t : X → Bool) (xs : List X) → list_all p xs ≡ true → list_any t xs ≡ true → (x : X) × (p x ≡ true) × (t x ≡ true)
one_of_both p t [] all any = absurd cc
one_of_both {X} p t (x ∷ xs) all any =
    let all_both = both_true (p x) (list_all p xs) all in by (t x) refl all_both.0 (one_of_both p t xs all_both.1) any
  where
    by : (b : Bool) → t x ≡ b → p x ≡ true → (list_any t xs ≡ true → (y : X) × (p y ≡ true) × (t y ≡ true)) → (b || list_any t xs) ≡ true → (y : X) × (p y ≡ true) × (t y ≡ true)
    by true e here later any = (x, here, e)
    by false e here later any = later any

-- ---- results by their keys

same_keys : (q k : List ℕ) → eq_by_cmp bytes_cmp q k ≡ true → q ≡ k
same_keys q k e = (bytes_decides q k).0 (sym (bytes_ties q k) ∙ e)

tied : (k : List ℕ) → eq_by_cmp bytes_cmp k k ≡ true
tied k = bytes_ties k k ∙ (bytes_decides k k).1 refl

-- whether a key has a result
has_result : (q : List ℕ) (xs : List KeyVersion) → is_some (find bytes_cmp q (versions xs)) ≡ list_any (λ x. bytes_eq q x.key) xs
has_result q [] = refl
has_result q (x ∷ xs) = ap (λ (b : Bool). is_some (cond b (Some x.version) (find bytes_cmp q (versions xs)))) (bytes_ties q x.key) ∙ by (bytes_eq q x.key) (has_result q xs)
  where
    by : (b : Bool) → is_some (find bytes_cmp q (versions xs)) ≡ list_any (λ x. bytes_eq q x.key) xs → is_some (cond b (Some x.version) (find bytes_cmp q (versions xs))) ≡ (b || list_any (λ x. bytes_eq q x.key) xs)
    by true e = refl
    by false e = e

left_T : (a b : Bool) → T (a && b) → T a
left_T true b p = tt
left_T false b p = p

right_T : (a b : Bool) → T (a && b) → T b
right_T true b p = p
right_T false b p = absurd p

no_tie : (o : Ordering) → T (is_lt o) → is_eq o ≡ false
no_tie Less p = refl
no_tie Equal p = absurd p
no_tie Greater p = absurd p

-- a key below all has none
below-no_result : (q : List ℕ) (xs : List KeyVersion) → T (below_all bytes_cmp q (versions xs)) → ◌≡◌ {A = Option Version} (find bytes_cmp q (versions xs)) None
below-no_result q [] h = refl
below-no_result q (x ∷ xs) h =
    rw (no_tie (bytes_cmp q x.key) (left_T (is_lt (bytes_cmp q x.key)) (below_all bytes_cmp q (versions xs)) h))
    (below-no_result q xs (right_T (is_lt (bytes_cmp q x.key)) (below_all bytes_cmp q (versions xs)) h))

-- what holds of each result that its key finds holds of all, where they rise
each_found : (p : KeyVersion → Bool) (xs : List KeyVersion) → T (is_sorted bytes_cmp (versions xs)) → ((x : KeyVersion) → find bytes_cmp x.key (versions xs) ≡ Some x.version → p x ≡ true) → list_all p xs ≡ true
each_found p [] rising h = refl
each_found p (x ∷ xs) rising h =
    and_true (p x) (list_all p xs) (h x (rw (tied x.key) refl)) (each_found p xs (right_T (below_all bytes_cmp x.key (versions xs)) (is_sorted bytes_cmp (versions xs)) rising) rest)
  where
    below : ◌≡◌ {A = Option Version} (find bytes_cmp x.key (versions xs)) None
    below = below-no_result x.key xs (left_T (below_all bytes_cmp x.key (versions xs)) (is_sorted bytes_cmp (versions xs)) rising)

    by : (y : KeyVersion) (b : Bool) → eq_by_cmp bytes_cmp y.key x.key ≡ b → find bytes_cmp y.key (versions xs) ≡ Some y.version → cond b (Some x.version) (find bytes_cmp y.key (versions xs)) ≡ Some y.version
    by y true e f = let n = sym f ∙ ap (λ (k : List ℕ). find bytes_cmp k (versions xs)) (same_keys y.key x.key e) ∙ below in absurd cc
    by y false e f = f

    rest : (y : KeyVersion) → find bytes_cmp y.key (versions xs) ≡ Some y.version → p y ≡ true
    rest y f = h y (by y (eq_by_cmp bytes_cmp y.key x.key) refl f)

-- ---- a key's row

none_either : (b : Bool) → ◌≡◌ {A = Option Version} (cond b None None) None
none_either true = refl
none_either false = refl

same_version : (o : Option Version) (v : Version) → option_eq is_same_version o (Some v) ≡ true → o ≡ Some v
same_version None v e = cc
same_version (Some x) v e = ap Some ((version_decides x v).0 e)

-- a result that is found is what the compared part has at its key
found_there : (s : State) (namespace : List ℕ) (r : Range) (xs : List KeyVersion) (q : List ℕ) (v : Version) → list_all (is_found s namespace r) xs ≡ true
    → find bytes_cmp q (versions xs) ≡ Some v → cond (is_compared r q) (version_in s (namespace, q)) None ≡ Some v
found_there s namespace r [] q v all f = cc
found_there s namespace r (x ∷ xs) q v all f =
    let all_both = both_true (is_found s namespace r x) (list_all (is_found s namespace r) xs) all in by (eq_by_cmp bytes_cmp q x.key) refl all_both.0 (found_there s namespace r xs q v all_both.1) f
  where
    by : (b : Bool) → eq_by_cmp bytes_cmp q x.key ≡ b → is_found s namespace r x ≡ true → (find bytes_cmp q (versions xs) ≡ Some v → cond (is_compared r q) (version_in s (namespace, q)) None ≡ Some v)
        → cond b (Some x.version) (find bytes_cmp q (versions xs)) ≡ Some v → cond (is_compared r q) (version_in s (namespace, q)) None ≡ Some v
    by true e here later f =
        let found = both_true (is_compared r x.key) (option_eq is_same_version (version_in s (namespace, x.key)) (Some x.version)) here in
        subst (λ (k : List ℕ). cond (is_compared r k) (version_in s (namespace, k)) None ≡ Some v) (sym (same_keys q x.key e))
        (ap (λ (b : Bool). cond b (version_in s (namespace, x.key)) None) found.0 ∙ same_version (version_in s (namespace, x.key)) x.version found.1 ∙ f)
    by false e here later f = later f

-- and conversely
is_there : (b : Bool) (o : Option Version) (v : Version) → cond b o None ≡ Some v → (b && option_eq is_same_version o (Some v)) ≡ true
is_there true o v e = ap (λ (x : Option Version). option_eq is_same_version x (Some v)) e ∙ (version_decides v v).1 refl
is_there false o v e = absurd cc

listed_where : (a b : Bool) (g : Option Row) (l : Bool) → l ≡ is_some (cond b (option_map (λ row. row.version) g) None) → (not a || not b || is_none g || l) ≡ true
listed_where true true None l e = refl
listed_where true true (Some row) l e = e
listed_where true false g l e = refl
listed_where false b g l e = refl

no_row_where : (a b : Bool) (g : Option Row) (l : Bool) → a ≡ true → (not a || not b || is_none g || l) ≡ true → l ≡ false → ◌≡◌ {A = Option Version} (cond b (option_map (λ row. row.version) g) None) None
no_row_where true true None l e listed none = refl
no_row_where true true (Some row) l e listed none = let n = sym listed ∙ none in absurd cc
no_row_where true false g l e listed none = refl
no_row_where false b g l e listed none = absurd cc

-- ---- changes

either_false : (a b : Bool) → (a || b) ≡ false → (a ≡ false) × (b ≡ false)
either_false true b e = absurd cc
either_false false b e = (refl, e)

-- whether a change is one of this key
abbrev is_of : StateKey → Change → Bool
is_of k c = is_same_key k (change_of c).0

-- a key that wasn't changed has the row that it had
not_changed : (m : State) (cs : List Change) (k : StateKey) → list_any (is_of k) cs ≡ false → get (with_changes m (changes_in cs)) k ≡ get m k
unfolding with_changes
not_changed m [] k e = refl
not_changed m (c ∷ cs) k e =
    let neither = either_false (is_of k c) (list_any (is_of k) cs) e in
    not_changed (set_at m (change_of c).0 (change_of c).1) cs k neither.1 ∙ get-set_at m (change_of c).0 (change_of c).1 k ∙ ap (λ (b : Bool). cond b (change_of c).1 (get m k)) neither.0

-- a key with no result has no row in the compared part, where each changed key is listed
not_there : (s : State) (namespace : List ℕ) (r : Range) (cs : List Change) (q : List ℕ) → s ≡ with_changes empty (changes_in cs) → list_all (is_listed s namespace r) cs ≡ true
    → find bytes_cmp q (versions r.results) ≡ None → ◌≡◌ {A = Option Version} (cond (is_compared r q) (version_in s (namespace, q)) None) None
not_there s namespace r cs q made all none = by (list_any (is_of (namespace, q)) cs) refl
  where
    no_row : get s (namespace, q) ≡ None → ◌≡◌ {A = Option Version} (cond (is_compared r q) (version_in s (namespace, q)) None) None
    no_row e = ap (λ (o : Option Row). cond (is_compared r q) (option_map (λ row. row.version) o) None) e ∙ none_either (is_compared r q)

    by : (b : Bool) → list_any (is_of (namespace, q)) cs ≡ b → ◌≡◌ {A = Option Version} (cond (is_compared r q) (version_in s (namespace, q)) None) None
    by true e =
        let one = one_of_both (is_listed s namespace r) (is_of (namespace, q)) cs all e in
        let same : (namespace, q) ≡ (change_of one.0).0 = same_key_is (namespace, q) (change_of one.0).0 one.2 in
        let key : q ≡ (change_of one.0).0.1 = ap (λ (k : StateKey). k.1) same in
        subst (λ (k : List ℕ). ◌≡◌ {A = Option Version} (cond (is_compared r k) (version_in s (namespace, k)) None) None) (sym key)
        (no_row_where (bytes_eq (change_of one.0).0.0 namespace) (is_compared r (change_of one.0).0.1) (get s (namespace, (change_of one.0).0.1)) (list_any (λ x. bytes_eq (change_of one.0).0.1 x.key) r.results)
        ((bytes_decides (change_of one.0).0.0 namespace).1 (sym (ap (λ (k : StateKey). k.0) same))) one.1
        (sym (has_result (change_of one.0).0.1 r.results) ∙ ap (λ (k : List ℕ). is_some (find bytes_cmp k (versions r.results))) (sym key) ∙ ap is_some none))
    by false e = no_row (ap (λ (t : State). get t (namespace, q)) made ∙ not_changed empty cs (namespace, q) e ∙ get-empty key_cmp (namespace, q))

-- ---- the law

-- over the state that these changes made
pub range_by_checks : (s : State) (namespace : List ℕ) (r : Range) (cs : List Change) → s ≡ with_changes empty (changes_in cs) → IsTrue (is_sorted bytes_cmp (versions r.results))
    → range_holds s namespace r ≡ (list_all (is_found s namespace r) r.results && list_all (is_listed s namespace r) cs)
range_by_checks s namespace r cs made rising = same_test (range_holds s namespace r) (list_all (is_found s namespace r) r.results && list_all (is_listed s namespace r) cs) to from
  where
    law : IsTrue (range_holds s namespace r) ↔ ((q : List ℕ) → HoldsAtKey s namespace r q)
    law = range_by_keys s namespace r rising

    to : range_holds s namespace r ≡ true → (list_all (is_found s namespace r) r.results && list_all (is_listed s namespace r) cs) ≡ true
    to h =
        let at = law.0 h in
        and_true (list_all (is_found s namespace r) r.results) (list_all (is_listed s namespace r) cs)
        (each_found (is_found s namespace r) r.results (subst T (sym rising) tt) (λ x f. is_there (is_compared r x.key) (version_in s (namespace, x.key)) x.version (at x.key ∙ f)))
        (all_of (is_listed s namespace r) cs (λ c. listed_where (bytes_eq (change_of c).0.0 namespace) (is_compared r (change_of c).0.1) (get s (namespace, (change_of c).0.1)) (list_any (λ x. bytes_eq (change_of c).0.1 x.key) r.results) (
        sym (has_result (change_of c).0.1 r.results) ∙ ap is_some (sym (at (change_of c).0.1)))))

    at_key : list_all (is_found s namespace r) r.results ≡ true → list_all (is_listed s namespace r) cs ≡ true → (q : List ℕ) (o : Option Version) → find bytes_cmp q (versions r.results) ≡ o → HoldsAtKey s namespace r q
    at_key found listed q None e = not_there s namespace r cs q made listed e ∙ sym e
    at_key found listed q (Some v) e = found_there s namespace r r.results q v found e ∙ sym e

    from : (list_all (is_found s namespace r) r.results && list_all (is_listed s namespace r) cs) ≡ true → range_holds s namespace r ≡ true
    from h =
        let each = both_true (list_all (is_found s namespace r) r.results) (list_all (is_listed s namespace r) cs) h in
        law.1 (λ q. at_key each.0 each.1 q (find bytes_cmp q (versions r.results)) refl)

-- ---- two lists of changes

-- over a state that the changes before the block made, and the changes since
pub range_over_changes : (before since : List Change) (s now : State) (namespace : List ℕ) (r : Range) → s ≡ with_changes empty (changes_in before) → now ≡ with_changes s (changes_in since) → IsTrue (has_results_in_form r)
    → range_holds now namespace r ≡ (list_all (is_found now namespace r) r.results && (list_all (is_listed now namespace r) before && list_all (is_listed now namespace r) since))
range_over_changes before since s now namespace r made later sound =
    range_by_checks now namespace r (before ++ since) all_made (both_true (is_sorted bytes_cmp (results_of r)) (list_all (λ x. is_within r.start r.end x.key) r.results) sound).0
    ∙ ap (λ (b : Bool). list_all (is_found now namespace r) r.results && b) (list_all-append (is_listed now namespace r) before since)
  where
    all_made : now ≡ with_changes empty (changes_in (before ++ since))
    all_made =
        later ∙ ap (λ (t : State). with_changes t (changes_in since)) made
        ∙ sym (with_changes-append empty (changes_in before) (changes_in since))
        ∙ ap (with_changes empty) (sym (map-append change_of before since))
