-- The words that are printed for bytes.
use Rattle.std.specs.Prelude.{ℕ, ◌+◌, ◌/◌, ◌%◌, nat_lt, if◌then◌else◌, List, [], ◌∷◌, flat_map}
use Rattle.text_lines.specs.Words.{stands_for_itself}

-- the hexadecimal digit of this value, in upper case
abbrev pub upper_digit : ℕ → ℕ
upper_digit value = if nat_lt value 10 then 48 + value else 55 + value

-- a byte that can't stand for itself is `%` and two digits
abbrev pub byte_spelling : ℕ → List ℕ
byte_spelling b = if stands_for_itself b then b ∷ [] else 37 ∷ upper_digit (b / 16) ∷ upper_digit (b % 16) ∷ []

-- no bytes are `%` alone
abbrev pub word_of : List ℕ → List ℕ
word_of [] = 37 ∷ []
word_of (b ∷ more) = flat_map byte_spelling (b ∷ more)
