-- The parts of a piece.
use Rattle.std.specs.Prelude.{◌<◌, ℕ, List, length}
use Rattle.pieces.specs.Pieces.{Fits}

-- These are all parts of a piece, in their order: each is what may be made of the part with its number, where there are so many.
abbrev pub AreParts : {Y : Type 0} → (ℕ → ℕ → Y → Type 0) → List Y → Type 0
AreParts gives parts = (0 < length parts) × Fits (gives (length parts)) parts
