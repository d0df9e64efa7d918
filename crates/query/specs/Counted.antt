-- The rule of the book in which the published list stands, and what its one step tells. A step between the definitions and
-- the code: no public contract cites this.
use Rattle.std.specs.Prelude.{◌≡◌, ℕ, ◌==◌, true, List, [], ◌∷◌, ◌++◌, length, MatchBool}
use Rattle.logbook.specs.Pages.{Cell, Step, View, Book, Named}
use Rattle.rules.specs.declared.delta.Delta.{Delta}

-- the book's first word counts the list; its second one isn't used
pub record IsCounted (cells : List Cell) (list : List Delta) : Type 0 where
  pub words : cells ≡ (length list, true) ∷ (0, true) ∷ []

abbrev pub counter_of : Book → Named
counter_of book = record { tracked = true; key = 0; book = book }

-- where the count was found as it was wanted, the delta was added behind all that had been seen
abbrev pub Adds : Step Delta → View Delta ℕ → ℕ → View Delta ℕ → Type 0
Adds step before found after = MatchBool (found == step.old) (after.0 ≡ before.0 ++ step.ask ∷ []) (length after.0 ≡ found)
