-- Requests one after the other, each with its answer, and each from what the one before it left.
use Rattle.std.specs.Prelude.{◌≡◌, List, [], ◌∷◌}

abbrev pub InTurn : {S Q A : Type 0} → (S → Q → A → S → Type 0) → S → List Q → List A → S → Type 0
InTurn {S} one old [] [] new = new ≡ old
InTurn {S} one old (q ∷ qs) (a ∷ answers) new = (mid : S) × one old q a mid × InTurn one mid qs answers new
InTurn one old [] (a ∷ answers) new = ⊥
InTurn one old (q ∷ qs) [] new = ⊥
