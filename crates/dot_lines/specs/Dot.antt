-- Text in the quoted strings of DOT, the language of Graphviz.
use Rattle.std.specs.Prelude.{◌≡◌, ℕ, ◌==◌, Bool, true, false, List, [], ◌∷◌, ◌++◌, codes, if◌then◌else◌, Option, Some, None, option_map}
use Rattle.std.specs.List.{flat_map}
use Rattle.text_lines.specs.Printed.{byte_spelling, word_of}

-- `&` begins the name of a character there, as in HTML
abbrev pub named_byte : ℕ → List ℕ
named_byte b = if b == 38 then codes "&amp;" else b ∷ []

-- and `"` and `\` get a `\` before them
abbrev pub escaped_byte : ℕ → List ℕ
escaped_byte b = if b == 34 then codes "\\\"" else if b == 92 then codes "\\\\" else named_byte b

abbrev pub escaped : List ℕ → List ℕ
escaped text = flat_map escaped_byte text

-- a byte of a word
abbrev pub quoted_byte : ℕ → List ℕ
quoted_byte b = escaped (byte_spelling b)

-- the word that encodes these bytes, between quotes
abbrev pub quoted_word : List ℕ → List ℕ
quoted_word [] = codes "%"
quoted_word (b ∷ more) = flat_map quoted_byte (b ∷ more)

-- which is the word, escaped
abbrev pub AreEscaped : Type 0
AreEscaped = (bytes : List ℕ) → quoted_word bytes ≡ escaped (word_of bytes)

-- more bytes before what was read
abbrev pub behind : List ℕ → Option (List ℕ × List ℕ) → Option (List ℕ × List ℕ)
behind front read = option_map (λ x. (front ++ x.0, x.1)) read

-- What a string has, and what follows its closing quote, after its opening quote was read, or also a `\`.
abbrev pub read_string : Bool → List ℕ → Option (List ℕ × List ℕ)
read_string was_backslash [] = None
read_string true (b ∷ rest) = behind (b ∷ []) (read_string false rest)
read_string false (b ∷ rest) = if b == 34 then Some ([], rest) else if b == 92 then read_string true rest else behind (b ∷ []) (read_string false rest)

-- No matter what follows, the string ends where the word does, and has the word.
abbrev pub StaysQuoted : Type 0
StaysQuoted = (text rest : List ℕ) → read_string false (escaped text ++ 34 ∷ rest) ≡ Some (flat_map named_byte text, rest)
