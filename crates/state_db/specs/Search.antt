-- What is before a key, in lists in the order of keys. No public contract cites this.
use Rattle.std.specs.Prelude.{◌≡◌, ℕ, zero, suc, Bool, true, false, List, [], ◌∷◌, Option, Some, None, if◌then◌else◌, ⊤}
use Rattle.std.specs.List.{list_any}
use Rattle.std.specs.Ordering.{is_lt, is_eq}
use Rattle.std.specs.FinMap.{is_sorted}
use Rattle.rules.specs.State.{StateKey, key_cmp}

-- something with its key
abbrev pub Keyed : Type 0 → Type 0
Keyed X = StateKey × X

-- the keys strictly rise
abbrev pub IsSorted : {X : Type 0} → List (Keyed X) → Type 0
IsSorted es = is_sorted key_cmp es ≡ true

-- whether something with a key is before another key
abbrev pub is_below : {X : Type 0} → StateKey → Keyed X → Bool
is_below k e = is_lt (key_cmp e.0 k)

-- whether what is at a place, if anything is, has the key
abbrev pub ties_at : {X : Type 0} → StateKey → List (Keyed X) → ℕ → Bool
ties_at k [] n = false
ties_at k (e ∷ es) zero = is_eq (key_cmp e.0 k)
ties_at k (e ∷ es) (suc n) = ties_at k es n

-- how many are before the first that fails the test
abbrev pub leading : {X : Type 0} → (X → Bool) → List X → ℕ
leading test [] = 0
leading test (x ∷ xs) = if test x then suc (leading test xs) else 0

-- after one that fails the test, all fail
abbrev pub Falls : {X : Type 0} → (X → Bool) → List X → Type 0
Falls test [] = ⊤
Falls test (x ∷ xs) = (test x ≡ false → list_any test xs ≡ false) × Falls test xs

-- what has the key, or none
abbrev pub if_it : {X : Type 0} → StateKey → Keyed X → Option X
if_it k e = if is_eq (key_cmp e.0 k) then Some e.1 else None
