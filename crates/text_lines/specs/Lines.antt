-- The lines of a text that say something, and their parts.
use Rattle.std.specs.Prelude.{ℕ, suc, ◌==◌, ◌||◌, not, Bool, if◌then◌else◌, List, [], ◌∷◌, length, drop, reverse, take_while, slice_index}
use Rattle.std.specs.Str.Lines.{lines}

abbrev pub is_space : ℕ → Bool
is_space b = b == 32

abbrev pub is_not_space : ℕ → Bool
is_not_space b = not (is_space b)

-- without the spaces at the front
abbrev pub without_front_spaces : List ℕ → List ℕ
without_front_spaces line = drop (length (take_while is_space line)) line

-- without the spaces at both ends
abbrev pub trimmed : List ℕ → List ℕ
trimmed line = reverse (without_front_spaces (reverse (without_front_spaces line)))

-- a trimmed line that is empty or begins with `#` says nothing
abbrev pub says_nothing : List ℕ → Bool
says_nothing line = length line == 0 || slice_index line 0 == 35

-- a line's number, counted from 1, and its trimmed bytes
pub record Statement : Type 0 where
  pub line : ℕ
  pub bytes : List ℕ

-- the lines that say something, where the first line has this number
abbrev pub statements_from : ℕ → List (List ℕ) → List Statement
statements_from n [] = []
statements_from n (line ∷ more) =
    if says_nothing (trimmed line) then statements_from (suc n) more
    else (record { line = n; bytes = trimmed line } ∷ statements_from (suc n) more)

-- Lines end with a line feed, which the last one may lack; a carriage return before it is dropped.
abbrev pub statements : List ℕ → List Statement
statements text = statements_from 1 (lines text)

-- the bytes before the first space
abbrev pub first_part : List ℕ → List ℕ
first_part line = take_while is_not_space line

-- what follows the first part and the spaces behind it
abbrev pub after_first_part : List ℕ → List ℕ
after_first_part line = without_front_spaces (drop (length (first_part line)) line)
