-- What threads tell one another of what they made.
use Rattle.std.specs.Prelude.{ℕ, List}
use Rattle.pieces.specs.Pieces.{IsMade}

-- One says what the other one says.
abbrev pub AreOne : Type 0 → Type 0 → Type 0
AreOne A B = (A → B) × (B → A)

-- What may be made of the piece at a place, and of a part of it, as it is picked, is what its work gives.
pub record IsPicked {P Y X : Type 0} (may_be : ℕ → X → Type 0) (may_be_part : ℕ → ℕ → ℕ → Y → Type 0) (gives : P → X → Type 0) (gives_part : P → ℕ → ℕ → Y → Type 0) (pieces : List P) : Type 0 where
  pub whole : (place : ℕ) (made : X) → AreOne (may_be place made) (IsMade gives pieces place made)
  pub part : (place count number : ℕ) (made : Y) → AreOne (may_be_part place count number made) (IsMade (λ piece part. gives_part piece count number part) pieces place made)
