-- What is written for bytes is read as these bytes.
use Rattle.std.proofs.Common.{◌≡◌, ℕ, ◌+◌, ◌*◌, ◌/◌, ◌%◌, ◌<◌, Bool, true, false, List, [], ◌∷◌, ◌++◌, Option, Some, None, option_map, option_and_then, cond, eqb, ap, refl, sym, ◌∙◌, arith, slice_index, codes, append_assoc, flat_map, nat_lt}
use Rattle.std.specs.List.{All}
use Rattle.std.specs.Str.{is_utf8}
use Rattle.std.proofs.lemmas.Bool.{eqb-true, ltb-true, lt-ltb}
use Rattle.std.proofs.lemmas.List.Elements.{All-head, All-tail}
use Rattle.hex.specs.Hex.{encode_with, lower_digits, hex_digit_value}
use Rattle.hex.proofs.HexLemmas.{IsDigits-lower_digits}
use Rattle.text_lines.specs.Words.{hex_byte}
use Rattle.json_lines.specs.Json.{digits_of, escaped, string_of, hex_object_of, value_of}
use Rattle.json_lines.specs.Reading.{then_rest, read_characters, read_escape, read_digits, read_pairs, read_value}

abbrev IsByte : ℕ → Type 0
IsByte b = b < 256

pair : (b : ℕ) → b < 256 → hex_byte (slice_index lower_digits (b / 16)) (slice_index lower_digits (b % 16)) ≡ Some b
pair b l =
    let high : b / 16 < 16 = omega arith in
    let low : b % 16 < 16 = omega arith in
    let sum : b / 16 * 16 + b % 16 ≡ b = omega arith in
    (λ i. option_and_then (λ h. option_map (λ l. h * 16 + l) (IsDigits-lower_digits (b % 16) low i)) (IsDigits-lower_digits (b / 16) high i)) ∙ ap Some sum

-- ---- strings

control : (b : ℕ) (rest : List ℕ) → b < 32 → read_digits (48 ∷ 48 ∷ slice_index lower_digits (b / 16) ∷ slice_index lower_digits (b % 16) ∷ rest) ≡ then_rest (read_characters rest) b
control b rest l =
    let fits : nat_lt b 128 ≡ true = lt-ltb b 128 (omega arith) in
    ap (λ byte. option_and_then (then_rest (read_characters rest)) (option_and_then (λ b. cond (nat_lt b 128) (Some b) None) byte)) (pair b (omega arith))
    ∙ ap (λ t. option_and_then (then_rest (read_characters rest)) (cond t (Some b) None)) fits

byte_by : (quote slash low : Bool) (b : ℕ) (rest : List ℕ) → eqb b 34 ≡ quote → eqb b 92 ≡ slash → nat_lt b 32 ≡ low
    → read_characters (cond quote (codes "\\\"") (cond slash (codes "\\\\") (cond low (codes "\\u00" ++ digits_of b) (b ∷ []))) ++ rest)
    ≡ then_rest (read_characters rest) b
unfolding encode_with
byte_by true slash low b rest e f g = ap (then_rest (read_characters rest)) (sym (eqb-true b 34 e))
byte_by false true low b rest e f g = ap (then_rest (read_characters rest)) (sym (eqb-true b 92 f))
byte_by false false true b rest e f g = control b rest (ltb-true b 32 g)
byte_by false false false b rest e f g =
    ap (λ t. cond t (Some ([], rest)) (cond (eqb b 92) (read_escape rest) (cond (nat_lt b 32) None (then_rest (read_characters rest) b)))) e
    ∙ (ap (λ t. cond t (read_escape rest) (cond (nat_lt b 32) None (then_rest (read_characters rest) b))) f
    ∙ ap (λ t. cond t None (then_rest (read_characters rest) b)) g)

characters : (bytes rest : List ℕ) → All IsByte bytes → read_characters (flat_map escaped bytes ++ 34 ∷ rest) ≡ Some (bytes, rest)
characters [] rest all = refl
characters (b ∷ more) rest all =
    ap read_characters (append_assoc (escaped b) (flat_map escaped more) (34 ∷ rest))
    ∙ (byte_by (eqb b 34) (eqb b 92) (nat_lt b 32) b (flat_map escaped more ++ 34 ∷ rest) refl refl refl
    ∙ ap (λ r. then_rest r b) (characters more rest (All-tail IsByte b more all)))

pub string_read : (bytes rest : List ℕ) → All IsByte bytes → read_value (string_of bytes ++ rest) ≡ Some (bytes, rest)
string_read bytes rest all = ap read_characters (append_assoc (flat_map escaped bytes) (34 ∷ []) rest) ∙ characters bytes rest all

-- ---- digits

-- a digit is no quotation mark
quote_by : (quote : Bool) (d v : ℕ) → eqb d 34 ≡ quote → hex_digit_value d ≡ Some v → quote ≡ false
quote_by false d v e h = refl
quote_by true d v e h = absurd (let none : None ≡ Some v = ap hex_digit_value (sym (eqb-true d 34 e)) ∙ h in cc)

pairs : (bytes rest : List ℕ) → All IsByte bytes → read_pairs (flat_map digits_of bytes ++ 34 ∷ 125 ∷ rest) ≡ Some (bytes, rest)
unfolding encode_with
pairs [] rest all = refl
pairs (b ∷ more) rest all =
    let l : b < 256 = All-head IsByte b more all in
    let high = slice_index lower_digits (b / 16) in
    let low = slice_index lower_digits (b % 16) in
    let left = flat_map digits_of more ++ 34 ∷ 125 ∷ rest in
    let digit : eqb high 34 ≡ false = quote_by (eqb high 34) high (b / 16) refl (IsDigits-lower_digits (b / 16) (omega (arith, l))) in
    ap (λ t. cond t (cond (eqb low 125) (Some ([], left)) None) (option_and_then (then_rest (read_pairs left)) (hex_byte high low))) digit
    ∙ (ap (option_and_then (then_rest (read_pairs left))) (pair b l)
    ∙ ap (λ r. then_rest r b) (pairs more rest (All-tail IsByte b more all)))

object_read : (bytes rest : List ℕ) → All IsByte bytes → read_value (hex_object_of bytes ++ rest) ≡ Some (bytes, rest)
object_read bytes rest all = ap read_pairs (append_assoc (flat_map digits_of bytes) (34 ∷ 125 ∷ []) rest) ∙ pairs bytes rest all

value_by : (is_text : Bool) (bytes rest : List ℕ) → All IsByte bytes → read_value (cond is_text (string_of bytes) (hex_object_of bytes) ++ rest) ≡ Some (bytes, rest)
value_by true = string_read
value_by false = object_read

pub value_read : (bytes rest : List ℕ) → All IsByte bytes → read_value (value_of bytes ++ rest) ≡ Some (bytes, rest)
value_read bytes rest all = value_by (is_utf8 bytes) bytes rest all

first_of : Option (List ℕ × List ℕ) → List ℕ
first_of None = []
first_of (Some r) = r.0

pub differ : (a b : List ℕ) → All IsByte a → All IsByte b → value_of a ≡ value_of b → a ≡ b
unfolding first_of
differ a b fits fit e = ap first_of (sym (value_read a [] fits) ∙ (ap (λ l. read_value (l ++ [])) e ∙ value_read b [] fit))
