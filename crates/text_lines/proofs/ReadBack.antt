-- What is printed for bytes is read as these bytes.
use Rattle.std.proofs.Common.{◌≡◌, ℕ, suc, ◌+◌, ◌*◌, ◌/◌, ◌%◌, ◌<◌, Bool, true, false, List, [], ◌∷◌, ◌++◌, Some, None, option_map, option_and_then, cond, eqb, ap, refl, ◌∙◌, arith, inl, inr, flat_map}
use Rattle.std.specs.List.{All}
use Rattle.std.proofs.lemmas.Bool.{cases_lt}
use Rattle.std.proofs.lemmas.Grind.{common_steps}
use Rattle.hex.specs.Hex.{hex_digit_value}
use Rattle.text_lines.specs.Words.{stands_for_itself, hex_byte, spelled, word_bytes}
use Rattle.text_lines.specs.Printed.{upper_digit, byte_spelling, word_of}

digit : (v : ℕ) → v < 16 → hex_digit_value (upper_digit v) ≡ Some v
digit v l = elim (cases_lt v 10) [
  | inl small ↦ grind (arith, common_steps)
  | inr large ↦ grind (arith, common_steps)
]

pair : (b : ℕ) → b < 256 → hex_byte (upper_digit (b / 16)) (upper_digit (b % 16)) ≡ Some b
pair b l =
    let high : b / 16 < 16 = omega arith in
    let low : b % 16 < 16 = omega arith in
    let sum : b / 16 * 16 + b % 16 ≡ b = omega arith in
    (λ i. option_and_then (λ h. option_map (λ l. h * 16 + l) (digit (b % 16) low i)) (digit (b / 16) high i)) ∙ ap Some sum

-- a byte that stands for itself
itself : (b : ℕ) (rest : List ℕ) → stands_for_itself b ≡ true → spelled (b ∷ rest) ≡ option_map (λ bytes. b ∷ bytes) (spelled rest)
itself b [] e = ap (λ t. cond t (Some (b ∷ [])) None) e
itself b (c ∷ []) e = ap (λ t. cond t (option_map (λ bytes. b ∷ bytes) (spelled (c ∷ []))) None) e
itself b (c ∷ d ∷ more) e =
    let escaped = cond (eqb b 37) (option_and_then (λ byte. option_map (λ bytes. byte ∷ bytes) (spelled more)) (hex_byte c d)) None in
    ap (λ t. cond t (option_map (λ bytes. b ∷ bytes) (spelled (c ∷ d ∷ more))) escaped) e

-- one that doesn't
escaped : (b : ℕ) (rest : List ℕ) → b < 256
    → spelled (37 ∷ upper_digit (b / 16) ∷ upper_digit (b % 16) ∷ rest) ≡ option_map (λ bytes. b ∷ bytes) (spelled rest)
escaped b rest l = ap (option_and_then (λ byte. option_map (λ bytes. byte ∷ bytes) (spelled rest))) (pair b l)

byte_first_by : (stands : Bool) (b : ℕ) (rest : List ℕ) → stands_for_itself b ≡ stands → b < 256
    → spelled (cond stands (b ∷ []) (37 ∷ upper_digit (b / 16) ∷ upper_digit (b % 16) ∷ []) ++ rest) ≡ option_map (λ bytes. b ∷ bytes) (spelled rest)
byte_first_by true b rest e l = itself b rest e
byte_first_by false b rest e l = escaped b rest l

byte_first : (b : ℕ) (rest : List ℕ) → b < 256 → spelled (byte_spelling b ++ rest) ≡ option_map (λ bytes. b ∷ bytes) (spelled rest)
byte_first b rest l = byte_first_by (stands_for_itself b) b rest refl l

all_first : (bytes : List ℕ) → All (λ b. b < 256) bytes → spelled (flat_map byte_spelling bytes) ≡ Some bytes
all_first [] all = refl
all_first (b ∷ more) all =
    byte_first b (flat_map byte_spelling more) (all 0 0 (omega arith))
    ∙ ap (option_map (λ bytes. b ∷ bytes)) (all_first more (λ k d l. all (suc k) d (omega arith)))

-- a byte that stands for itself is no `%`
word_first_by : (stands : Bool) (b : ℕ) (rest : List ℕ) → stands_for_itself b ≡ stands
    → word_bytes (cond stands (b ∷ []) (37 ∷ upper_digit (b / 16) ∷ upper_digit (b % 16) ∷ []) ++ rest)
    ≡ spelled (cond stands (b ∷ []) (37 ∷ upper_digit (b / 16) ∷ upper_digit (b % 16) ∷ []) ++ rest)
word_first_by true b [] e = grind (arith, common_steps)
word_first_by true b (c ∷ more) e = refl
word_first_by false b rest e = refl

pub read_back : (bytes : List ℕ) → All (λ b. b < 256) bytes → word_bytes (word_of bytes) ≡ Some bytes
read_back [] all = refl
read_back (b ∷ more) all = word_first_by (stands_for_itself b) b (flat_map byte_spelling more) refl ∙ all_first (b ∷ more) all
