-- The keys that are compared, gathered one by one.
use Rattle.std.proofs.Common.{◌≡◌, ℕ, Bool, true, false, ◌||◌, List, [], ◌∷◌, ◌++◌, refl, sym, ap, subst, ◌∙◌}
use Rattle.std.specs.List.{list_any}
use Rattle.std.specs.Str.{bytes_eq}
use Rattle.std.specs.Cmp.Lexicographic.{bytes_decides}
use Rattle.std.proofs.lemmas.List.Folds.{list_any-append}
use Rattle.transaction.specs.declared.transaction.Range.{Range}
use Rattle.rules.specs.Ranges.{is_compared}
use Rattle.rules.proofs.Booleans.{or-true}
use Rattle.mvcc.specs.RangeChecks.{StopCompared}

-- a compared key of them all is among those that were taken, or among those that are left
abbrev pub AreTaken : Range → List (List ℕ) → List (List ℕ) → List (List ℕ) → Type 0
AreTaken r all taken left = (q : List ℕ) → is_compared r q ≡ true → list_any (bytes_eq q) all ≡ true → (list_any (bytes_eq q) taken || list_any (bytes_eq q) left) ≡ true

pub none_taken : (r : Range) (all : List (List ℕ)) → AreTaken r all [] all
none_taken r all q compared among = among

moved : (a b c : Bool) → ((a || (b || false)) || c) ≡ (a || (b || c))
moved true b c = refl
moved false true c = refl
moved false false c = refl

pub next_taken : (r : Range) (all taken left rest : List (List ℕ)) (x : List ℕ) → left ≡ x ∷ rest → AreTaken r all taken left → AreTaken r all (taken ++ x ∷ []) rest
next_taken r all taken left rest x first before q compared among =
    ap (λ (b : Bool). b || list_any (bytes_eq q) rest) (list_any-append (bytes_eq q) taken (x ∷ []))
    ∙ moved (list_any (bytes_eq q) taken) (bytes_eq q x) (list_any (bytes_eq q) rest)
    ∙ ap (λ (xs : List (List ℕ)). list_any (bytes_eq q) taken || list_any (bytes_eq q) xs) (sym first) ∙ before q compared among

-- a key of a list that doesn't pass a test isn't one that passes
not_among : (test : List ℕ → Bool) (q : List ℕ) (xs : List (List ℕ)) → test q ≡ true → list_any test xs ≡ false → list_any (bytes_eq q) xs ≡ false
not_among test q [] passes none = refl
not_among test q (x ∷ xs) passes none = by (bytes_eq q x) refl (test x) refl none (not_among test q xs passes)
  where
    by : (b : Bool) → bytes_eq q x ≡ b → (t : Bool) → test x ≡ t → (t || list_any test xs) ≡ false → (list_any test xs ≡ false → list_any (bytes_eq q) xs ≡ false) → (b || list_any (bytes_eq q) xs) ≡ false
    by b e true fails out rest = absurd cc
    by true e false fails out rest = let clash = sym passes ∙ ap test ((bytes_decides q x).0 e) ∙ fails in absurd cc
    by false e false fails out rest = rest out

or_first : (a b : Bool) → (a || b) ≡ true → b ≡ false → a ≡ true
or_first true b e none = refl
or_first false b e none = sym none ∙ e

-- where nothing that is left is compared, all are taken
pub all_taken : (r : Range) (all taken left : List (List ℕ)) → list_any (is_compared r) left ≡ false → AreTaken r all taken left → (q : List ℕ) → is_compared r q ≡ true → list_any (bytes_eq q) all ≡ true → list_any (bytes_eq q) taken ≡ true
all_taken r all taken left none before q compared among =
    or_first (list_any (bytes_eq q) taken) (list_any (bytes_eq q) left) (before q compared among) (not_among (is_compared r) q left compared none)

-- none behind the first that isn't compared is
pub rest_uncompared : (r : Range) (left rest : List (List ℕ)) (x : List ℕ) → left ≡ x ∷ rest → StopCompared r left → is_compared r x ≡ false → list_any (is_compared r) left ≡ false
rest_uncompared r left rest x first stops out =
    let here = subst (StopCompared r) first stops in
    ap (list_any (is_compared r)) first ∙ (λ i. out i || here.0 out i)

-- rows and written keys together
pub either_among : (q : List ℕ) (rows written keys : List (List ℕ)) (is : list_any (bytes_eq q) (rows ++ written) ≡ true) → (kept : List (List ℕ)) → (list_any (bytes_eq q) rows ≡ true → list_any (bytes_eq q) kept ≡ true) → keys ≡ kept ++ written → list_any (bytes_eq q) keys ≡ true
either_among q rows written keys is kept rows_kept all =
    ap (list_any (bytes_eq q)) all ∙ list_any-append (bytes_eq q) kept written
    ∙ by (list_any (bytes_eq q) rows) refl (list_any (bytes_eq q) written) (sym (list_any-append (bytes_eq q) rows written) ∙ is)
  where
    by : (a : Bool) → list_any (bytes_eq q) rows ≡ a → (b : Bool) → (a || b) ≡ true → (list_any (bytes_eq q) kept || b) ≡ true
    by true e b h = ap (λ (x : Bool). x || b) (rows_kept e)
    by false e b h = ap (λ (x : Bool). list_any (bytes_eq q) kept || x) h ∙ or-true (list_any (bytes_eq q) kept)
