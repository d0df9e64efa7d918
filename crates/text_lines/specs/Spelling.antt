-- How a word is read from the front. No public contract cites this.
use Rattle.std.specs.Prelude.{ℕ, ◌==◌, if◌then◌else◌, List, [], ◌∷◌, Option, Some, None, option_map}
use Rattle.text_lines.specs.Words.{stands_for_itself, hex_byte}

-- the byte of two digits at the front, and what follows them
abbrev pub first_escaped : List ℕ → Option (ℕ × List ℕ)
first_escaped [] = None
first_escaped (c ∷ []) = None
first_escaped (c ∷ d ∷ more) = option_map (λ byte. (byte, more)) (hex_byte c d)

-- the byte that is spelled first, and what follows its spelling
abbrev pub first_spelled : List ℕ → Option (ℕ × List ℕ)
first_spelled [] = None
first_spelled (b ∷ more) = if stands_for_itself b then Some (b, more) else if b == 37 then first_escaped more else None
