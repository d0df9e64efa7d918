-- Rows worked by hand, which compute.
use Rattle.std.proofs.Common.{◌≡◌, [], ◌∷◌, Some, None, refl}
use Rattle.std.specs.Prelude.{codes, ◌++◌}
use Rattle.text_lines.specs.Lines.{statements, first_part, after_first_part}
use Rattle.text_lines.specs.Words.{word_bytes}

-- an empty line, a comment, spaces at both ends, a carriage return before the line feed, and one at the very end
lines_of_a_text : statements (codes " " ++ 10 ∷ codes "  # c" ++ 10 ∷ codes " a  b " ++ 13 ∷ 10 ∷ codes "c" ++ 13 ∷ [])
    ≡ record { line = 3; bytes = codes "a  b" } ∷ record { line = 4; bytes = codes "c" ++ 13 ∷ [] } ∷ []
lines_of_a_text = refl

parts_of_a_line : first_part (codes "one   two  three") ≡ codes "one"
parts_of_a_line = refl

rest_of_a_line : after_first_part (codes "one   two  three") ≡ codes "two  three"
rest_of_a_line = refl

-- the bytes 61 20 25
word_of_three : word_bytes (codes "a%20%25") ≡ Some (0x61 ∷ 0x20 ∷ 0x25 ∷ [])
word_of_three = refl

empty_word : word_bytes (codes "%") ≡ Some []
empty_word = refl

either_case : word_bytes (codes "%fF") ≡ Some (255 ∷ [])
either_case = refl

lone_percent : word_bytes (codes "a%") ≡ None
lone_percent = refl

empty_text : word_bytes [] ≡ None
empty_text = refl

space_in_word : word_bytes (codes "a b") ≡ None
space_in_word = refl
