-- Bytes as JSON has them (RFC 8259).
use Rattle.std.specs.Prelude.{ℕ, nat_lt, ◌==◌, if◌then◌else◌, List, [], ◌∷◌, ◌++◌, codes}
use Rattle.std.specs.List.{flat_map}
use Rattle.std.specs.Str.{is_utf8}
use Rattle.hex.specs.Hex.{encode_lower}

-- two digits, in lower case
abbrev pub digits_of : ℕ → List ℕ
digits_of b = encode_lower (b ∷ [])

-- inside a string a quotation mark and a backslash have a backslash before them, and a control character is four digits
-- behind `\u`
abbrev pub escaped : ℕ → List ℕ
escaped b =
    if b == 34 then codes "\\\""
    else if b == 92 then codes "\\\\"
    else if nat_lt b 32 then codes "\\u00" ++ digits_of b
    else b ∷ []

abbrev pub string_of : List ℕ → List ℕ
string_of bytes = codes "\"" ++ (flat_map escaped bytes ++ codes "\"")

-- bytes that are no text are told by their digits
abbrev pub hex_object_of : List ℕ → List ℕ
hex_object_of bytes = codes "{\"hex\":\"" ++ (flat_map digits_of bytes ++ codes "\"}")

abbrev pub value_of : List ℕ → List ℕ
value_of bytes = if is_utf8 bytes then string_of bytes else hex_object_of bytes
