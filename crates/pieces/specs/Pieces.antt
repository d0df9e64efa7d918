-- Pieces of a list, and what is made of them.
use Rattle.std.specs.Prelude.{◌≡◌, ◌<◌, ◌∷◌, ℕ, List, length, slice_index_or, []}

-- This may be made of the piece at that place.
abbrev pub IsMade : {P X : Type 0} → (P → X → Type 0) → List P → ℕ → X → Type 0
IsMade gives pieces place made = (place < length pieces) × ((piece : _) → piece ≡ slice_index_or pieces place piece → gives piece made)

-- These may be made of the pieces, one of each, in their order.
abbrev pub AreMade : {P X : Type 0} → (P → X → Type 0) → List P → List X → Type 0
AreMade gives [] [] = Unit {0}
AreMade gives (piece ∷ pieces) (made ∷ all) = gives piece made × AreMade gives pieces all
AreMade gives [] (made ∷ all) = ⊥
AreMade gives (piece ∷ pieces) [] = ⊥

-- What is in a slot fits its place.
abbrev pub Fits : {S : Type 0} → (ℕ → S → Type 0) → List S → Type 0
Fits fits slots = (place : ℕ) (slot : _) → place < length slots → slot ≡ slice_index_or slots place slot → fits place slot
