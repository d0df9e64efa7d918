-- The first of some things, and the last.
use Rattle.std.specs.Prelude.{ℕ, zero, suc, List, [], ◌∷◌, Bool, if◌then◌else◌, Option, Some, None}
use Rattle.std.specs.Option.{option_or}

-- the first that is there
abbrev pub first_there : {X : Type 0} → List (Option X) → Option X
first_there [] = None
first_there (o ∷ os) = option_or o (first_there os)

-- the first number below n that passes a test
unfoldable pub first_below : (ℕ → Bool) → ℕ → Option ℕ
first_below test zero = None
first_below test (suc n) = option_or (first_below test n) (if test n then Some n else None)

-- and the last one
unfoldable pub last_below : (ℕ → Bool) → ℕ → Option ℕ
last_below test zero = None
last_below test (suc n) = if test n then Some n else last_below test n
