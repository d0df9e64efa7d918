-- Lines that a buffer keeps for an output.
use Rattle.std.specs.Prelude.{◌≡◌, ◌++◌, ℕ, List, Option, Some, None, ⊤}

-- What the output was given, if that is known, and then what the buffer keeps, is longer by this text.
abbrev pub Adds : Option (List ℕ) → List ℕ → Option (List ℕ) → List ℕ → List ℕ → Type 0
Adds None kept now left text = ⊤
Adds (Some given) kept None left text = ⊥
Adds (Some given) kept (Some more) left text = more ++ left ≡ (given ++ kept) ++ text
