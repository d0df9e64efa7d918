-- How a reader of JSON takes such bytes from the front of a text, with what is behind them. It knows those of JSON's
-- escapes that stand for a character of ASCII, but for the short ones of control characters.
use Rattle.std.specs.Prelude.{ℕ, ◌==◌, ◌||◌, ◌&&◌, nat_lt, if◌then◌else◌, List, [], ◌∷◌, take, drop, codes, Option, Some, None, option_map, option_and_then}
use Rattle.std.specs.Str.{bytes_eq}
use Rattle.text_lines.specs.Words.{hex_byte}

-- a byte, and then what is read of the rest
abbrev pub then_rest : Option (List ℕ × List ℕ) → ℕ → Option (List ℕ × List ℕ)
then_rest rest b = option_map (λ r. (b ∷ r.0, r.1)) rest

-- the character of ASCII of four digits
abbrev pub ascii_of : ℕ → ℕ → ℕ → ℕ → Option ℕ
ascii_of first second high low =
    if first == 48 && second == 48 then option_and_then (λ b. if nat_lt b 128 then Some b else None) (hex_byte high low) else None

abbrev mutual
  -- the characters up to the quotation mark that ends them
  pub read_characters : List ℕ → Option (List ℕ × List ℕ)
  read_characters [] = None
  read_characters (b ∷ more) =
      if b == 34 then Some ([], more)
      else if b == 92 then read_escape more
      else if nat_lt b 32 then None
      else then_rest (read_characters more) b

  -- behind a backslash
  pub read_escape : List ℕ → Option (List ℕ × List ℕ)
  read_escape [] = None
  read_escape (b ∷ more) =
      if b == 34 || b == 92 then then_rest (read_characters more) b
      else if b == 117 then read_digits more
      else None

  -- behind `\u`
  pub read_digits : List ℕ → Option (List ℕ × List ℕ)
  read_digits [] = None
  read_digits (a ∷ []) = None
  read_digits (a ∷ b ∷ []) = None
  read_digits (a ∷ b ∷ c ∷ []) = None
  read_digits (a ∷ b ∷ c ∷ d ∷ more) = option_and_then (then_rest (read_characters more)) (ascii_of a b c d)

-- pairs of digits, up to a quotation mark and the brace that ends the object
abbrev pub read_pairs : List ℕ → Option (List ℕ × List ℕ)
read_pairs [] = None
read_pairs (a ∷ []) = None
read_pairs (a ∷ b ∷ more) =
    if a == 34 then (if b == 125 then Some ([], more) else None)
    else option_and_then (then_rest (read_pairs more)) (hex_byte a b)

-- a string, or an object of which the one member is `hex`
abbrev pub read_value : List ℕ → Option (List ℕ × List ℕ)
read_value [] = None
read_value (b ∷ more) =
    if b == 34 then read_characters more
    else if bytes_eq (take 8 (b ∷ more)) (codes "{\"hex\":\"") then read_pairs (drop 8 (b ∷ more))
    else None
