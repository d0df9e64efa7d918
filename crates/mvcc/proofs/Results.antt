-- Results whose keys rise: what they give a key, and the search for one.
use Rattle.std.proofs.Common.{◌≡◌, ◌⊎◌, ℕ, zero, suc, ◌+◌, ◌<◌, ◌≤◌, Bool, true, false, cond, leb, ◌&&◌, ◌||◌, List, [], ◌∷◌, map, length, get_or, Option, Some, None, Result, Ok, Err, T, refl, sym, ap, ◌∙◌, arith, inl, inr}
use Rattle.std.specs.Prelude.{is_some, is_ok}
use Rattle.std.specs.declared.cmp.Ordering.{Ordering}
use Rattle.std.specs.declared.cmp.Ordering.TheVariants.{Less, Equal, Greater}
use Rattle.std.specs.Ordering.{is_lt, is_eq, eq_by_cmp, ordering_index, ordering_reverse}
use Rattle.std.specs.Cmp.Lexicographic.{bytes_decides, nat_list_cmp_total}
use Rattle.std.specs.List.{list_all, list_any}
use Rattle.std.specs.List.Sorted.{IsSearchInRange, IsBinarySearchResult, IsNonDecreasingBy, IsPartitionPoint}
use Rattle.std.specs.Str.{bytes_eq}
use Rattle.std.specs.FinMap.{find, is_sorted}
use Rattle.std.specs.FinMap.Entries.{below_all}
use Rattle.std.proofs.lemmas.Bool.Decides.{leb_tells}
use Rattle.std.proofs.lemmas.List.Sorted.{searchable_from_sorted}
use Rattle.transaction.specs.declared.transaction.Version.{Version}
use Rattle.transaction.specs.declared.transaction.KeyVersion.{KeyVersion}
use Rattle.values.specs.Order.{bytes_cmp}
use Rattle.rules.proofs.Booleans.{or-true}
use Rattle.rules.proofs.Keys.{bytes_ties}

pub and_true : (a b : Bool) → a ≡ true → b ≡ true → (a && b) ≡ true
and_true a b p q = λ i. p i && q i

abbrev pub versions : List KeyVersion → List (List ℕ × Version)
versions xs = map (λ x. (x.key, x.version)) xs

-- the version that the results give a key
abbrev pub given : List ℕ → List KeyVersion → Option Version
given q xs = find bytes_cmp q (versions xs)

pub given_where : (q : List ℕ) (xs : List KeyVersion) → is_some (given q xs) ≡ list_any (λ x. bytes_eq q x.key) xs
given_where q [] = refl
given_where q (x ∷ xs) = ap (λ (b : Bool). is_some (cond b (Some x.version) (given q xs))) (bytes_ties q x.key) ∙ by (bytes_eq q x.key) (given_where q xs)
  where
    by : (b : Bool) → is_some (given q xs) ≡ list_any (λ x. bytes_eq q x.key) xs → is_some (cond b (Some x.version) (given q xs)) ≡ (b || list_any (λ x. bytes_eq q x.key) xs)
    by true rest = refl
    by false rest = rest

pub first_T : (a b : Bool) → T (a && b) → T a
first_T true b p = tt
first_T false b p = p

pub second_T : (a b : Bool) → T (a && b) → T b
second_T true b p = p
second_T false b p = absurd p

no_tie : (o : Ordering) → T (is_lt o) → is_eq o ≡ false
no_tie Less p = refl
no_tie Equal p = absurd p
no_tie Greater p = absurd p

not_given_below : (q : List ℕ) (xs : List KeyVersion) → T (below_all bytes_cmp q (versions xs)) → ◌≡◌ {A = Option Version} (given q xs) None
not_given_below q [] below = refl
not_given_below q (x ∷ xs) below =
    ap (λ (b : Bool). cond b (Some x.version) (given q xs)) (no_tie (bytes_cmp q x.key) (first_T (is_lt (bytes_cmp q x.key)) (below_all bytes_cmp q (versions xs)) below))
    ∙ not_given_below q xs (second_T (is_lt (bytes_cmp q x.key)) (below_all bytes_cmp q (versions xs)) below)

ties_itself : (q : List ℕ) → eq_by_cmp bytes_cmp q q ≡ true
ties_itself q = bytes_ties q q ∙ (bytes_decides q q).1 refl

-- results that rise give each of their keys its own version, so a test of what is given is one of each result
pub each_given : (p : KeyVersion → Bool) (xs : List KeyVersion) → T (is_sorted bytes_cmp (versions xs)) → ((x : KeyVersion) → given x.key xs ≡ Some x.version → p x ≡ true) → list_all p xs ≡ true
each_given p [] rising passes = refl
each_given p (x ∷ xs) rising passes =
    and_true (p x) (list_all p xs)
    (passes x (ap (λ (b : Bool). cond b (Some x.version) (given x.key xs)) (ties_itself x.key)))
    (each_given p xs (second_T (below_all bytes_cmp x.key (versions xs)) (is_sorted bytes_cmp (versions xs)) rising) (λ y is. passes y (by y (eq_by_cmp bytes_cmp y.key x.key) refl is)))
  where
    not_again : ◌≡◌ {A = Option Version} (given x.key xs) None
    not_again = not_given_below x.key xs (first_T (below_all bytes_cmp x.key (versions xs)) (is_sorted bytes_cmp (versions xs)) rising)

    by : (y : KeyVersion) (b : Bool) → eq_by_cmp bytes_cmp y.key x.key ≡ b → given y.key xs ≡ Some y.version → cond b (Some x.version) (given y.key xs) ≡ Some y.version
    by y true tie is =
        let same : y.key ≡ x.key = (bytes_decides y.key x.key).0 (sym (bytes_ties y.key x.key) ∙ tie) in
        let none = sym is ∙ ap (λ (k : List ℕ). given k xs) same ∙ not_again in absurd cc
    by y false tie is = is

-- ---- the search

not_back : (o : Ordering) → T (is_lt o) → is_lt (ordering_reverse o) ≡ false
not_back Less p = refl
not_back Equal p = absurd p
not_back Greater p = absurd p

steps_rise : (xs : List KeyVersion) (k : ℕ) (d : KeyVersion) → suc k < length xs → T (is_sorted bytes_cmp (versions xs)) → is_lt (bytes_cmp (get_or xs (suc k) d).key (get_or xs k d).key) ≡ false
steps_rise [] k d lt rising = absurd (omega arith)
steps_rise (x ∷ []) k d lt rising = absurd (omega arith)
steps_rise (x ∷ y ∷ xs) zero d lt rising =
    let up = first_T (is_lt (bytes_cmp x.key y.key)) (below_all bytes_cmp x.key (versions xs)) (first_T (below_all bytes_cmp x.key (versions (y ∷ xs))) (is_sorted bytes_cmp (versions (y ∷ xs))) rising) in
    ap is_lt (nat_list_cmp_total.antisymm y.key x.key) ∙ not_back (bytes_cmp x.key y.key) up
steps_rise (x ∷ y ∷ xs) (suc k) d lt rising = steps_rise (y ∷ xs) k d (omega arith) (second_T (below_all bytes_cmp x.key (versions (y ∷ xs))) (is_sorted bytes_cmp (versions (y ∷ xs))) rising)

can_search : (xs : List KeyVersion) (q : List ℕ) → T (is_sorted bytes_cmp (versions xs)) → IsNonDecreasingBy (λ x. ordering_index (bytes_cmp x.key q)) xs
can_search xs q rising =
    searchable_from_sorted nat_list_cmp_total (λ (x : KeyVersion). x.key) xs q (λ k d low lt.
    let e : k + 1 ≡ suc k = omega arith in
    ap (λ (n : ℕ). is_lt (bytes_cmp (get_or xs n d).key (get_or xs k d).key)) e ∙ steps_rise xs k d (omega arith) rising)

-- one that passes, and none
some_passes : (test : KeyVersion → Bool) (xs : List KeyVersion) (n : ℕ) → n < length xs → ((d : KeyVersion) → test (get_or xs n d) ≡ true) → list_any test xs ≡ true
some_passes test [] n lt passes = absurd (omega arith)
some_passes test (x ∷ xs) zero lt passes = ap (λ (b : Bool). b || list_any test xs) (passes x)
some_passes test (x ∷ xs) (suc n) lt passes = ap (λ (b : Bool). test x || b) (some_passes test xs n (omega arith) passes) ∙ or-true (test x)

none_passes : (test : KeyVersion → Bool) (xs : List KeyVersion) → ((n : ℕ) (d : KeyVersion) → n < length xs → test (get_or xs n d) ≡ false) → list_any test xs ≡ false
none_passes test [] fails = refl
none_passes test (x ∷ xs) fails = ap (λ (b : Bool). b || list_any test xs) (fails 0 x (omega arith)) ∙ none_passes test xs (λ n d lt. fails (suc n) d (omega arith))

hits : (a b : List ℕ) → bytes_cmp a b ≡ Equal → bytes_eq b a ≡ true
hits a b tie = (bytes_decides b a).1 (sym ((bytes_decides a b).0 (sym (bytes_ties a b) ∙ ap is_eq tie)))

misses : (a b : List ℕ) → is_eq (bytes_cmp a b) ≡ false → bytes_eq b a ≡ false
misses a b apart = by (bytes_eq b a) refl
  where
    by : (t : Bool) → bytes_eq b a ≡ t → t ≡ false
    by false e = refl
    by true e = let tie : eq_by_cmp bytes_cmp a b ≡ true = bytes_ties a b ∙ (bytes_decides a b).1 (sym ((bytes_decides b a).0 e)) in sym tie ∙ apart

pub searched : (xs : List KeyVersion) (q : List ℕ) (r : Result ℕ ℕ) → T (is_sorted bytes_cmp (versions xs)) → IsSearchInRange r (length xs) → IsBinarySearchResult (λ x. bytes_cmp x.key q) xs r → is_ok r ≡ list_any (λ x. bytes_eq q x.key) xs
searched xs q (Ok n) rising within at = sym (some_passes (λ x. bytes_eq q x.key) xs n within (λ d. hits (get_or xs n d).key q (at d)))
searched xs q (Err n) rising within parted = sym (none_passes (λ x. bytes_eq q x.key) xs (λ k d lt. by k d lt (leb_tells n k)))
  where
    sides : IsPartitionPoint (λ x. bytes_cmp x.key q ≡ Less) (λ x. bytes_cmp x.key q ≡ Greater) xs n
    sides = parted (can_search xs q rising)

    by : (k : ℕ) (d : KeyVersion) → k < length xs → ((leb n k ≡ true) × (n ≤ k)) ⊎ ((leb n k ≡ false) × (k < n)) → bytes_eq q (get_or xs k d).key ≡ false
    by k d lt (inl behind) = misses (get_or xs k d).key q (ap is_eq (sides.1 k d behind.1 lt))
    by k d lt (inr before) = misses (get_or xs k d).key q (ap is_eq (sides.0 k d (omega arith) before.1))

-- ---- what a search tells of the version that is given

-- each key is given its own version
given_at : (xs : List KeyVersion) (n : ℕ) (d : KeyVersion) → T (is_sorted bytes_cmp (versions xs)) → n < length xs → given (get_or xs n d).key xs ≡ Some (get_or xs n d).version
given_at [] n d rising lt = absurd (omega arith)
given_at (x ∷ xs) zero d rising lt = ap (λ (b : Bool). cond b (Some x.version) (given x.key xs)) (ties_itself x.key)
given_at (x ∷ xs) (suc n) d rising lt =
    by (get_or xs n d) (eq_by_cmp bytes_cmp (get_or xs n d).key x.key) refl
    (given_at xs n d (second_T (below_all bytes_cmp x.key (versions xs)) (is_sorted bytes_cmp (versions xs)) rising) (omega arith))
  where
    not_again : ◌≡◌ {A = Option Version} (given x.key xs) None
    not_again = not_given_below x.key xs (first_T (below_all bytes_cmp x.key (versions xs)) (is_sorted bytes_cmp (versions xs)) rising)

    by : (y : KeyVersion) (b : Bool) → eq_by_cmp bytes_cmp y.key x.key ≡ b → given y.key xs ≡ Some y.version → cond b (Some x.version) (given y.key xs) ≡ Some y.version
    by y true tie is =
        let same : y.key ≡ x.key = (bytes_decides y.key x.key).0 (sym (bytes_ties y.key x.key) ∙ tie) in
        let none = sym is ∙ ap (λ (k : List ℕ). given k xs) same ∙ not_again in absurd cc
    by y false tie is = is

pub given_found : (xs : List KeyVersion) (q : List ℕ) (n : ℕ) (r : Result ℕ ℕ) → r ≡ Ok n → T (is_sorted bytes_cmp (versions xs)) → IsSearchInRange r (length xs) → IsBinarySearchResult (λ x. bytes_cmp x.key q) xs r
    → (d : KeyVersion) → d ≡ get_or xs n d → Some d.version ≡ given q xs
given_found xs q n (Err m) is rising within at d here = absurd cc
given_found xs q n (Ok m) is rising within at d here =
    let same : m ≡ n = cc in
    let place : get_or xs m d ≡ d = ap (λ (k : ℕ). get_or xs k d) same ∙ sym here in
    let key : (get_or xs m d).key ≡ q = (bytes_decides (get_or xs m d).key q).0 (sym (bytes_ties (get_or xs m d).key q) ∙ ap is_eq (at d)) in
    ap (λ (x : KeyVersion). Some x.version) (sym place) ∙ sym (given_at xs m d rising within) ∙ ap (λ (k : List ℕ). given k xs) key

none_if : {X : Type 0} (o : Option X) → is_some o ≡ false → o ≡ None
none_if None e = refl
none_if (Some x) e = absurd cc

pub none_found : (xs : List KeyVersion) (q : List ℕ) (n : ℕ) (r : Result ℕ ℕ) → r ≡ Err n → T (is_sorted bytes_cmp (versions xs)) → IsSearchInRange r (length xs) → IsBinarySearchResult (λ x. bytes_cmp x.key q) xs r
    → ◌≡◌ {A = Option Version} None (given q xs)
none_found xs q n r is rising within at =
    let not_ok : is_ok r ≡ false = ap (λ (x : Result ℕ ℕ). is_ok x) is in
    sym (none_if (given q xs) (given_where q xs ∙ sym (searched xs q r rising within at) ∙ not_ok))
