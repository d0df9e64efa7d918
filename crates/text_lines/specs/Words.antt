-- Words, which spell any bytes in printable ASCII without spaces.
use Rattle.std.specs.Prelude.{ℕ, ◌+◌, ◌*◌, ◌==◌, ◌&&◌, nat_le, not, Bool, if◌then◌else◌, List, [], ◌∷◌, Option, Some, None, option_map, option_and_then}
use Rattle.hex.specs.Hex.{hex_digit_value}

-- stands for itself: 0x21 to 0x7e, but for `%`
abbrev pub stands_for_itself : ℕ → Bool
stands_for_itself b = nat_le 0x21 b && nat_le b 0x7e && not (b == 37)

-- the byte of two hexadecimal digits of either case
abbrev pub hex_byte : ℕ → ℕ → Option ℕ
hex_byte high low = option_and_then (λ h. option_map (λ l. h * 16 + l) (hex_digit_value low)) (hex_digit_value high)

-- the bytes that are spelled, or none where a byte of the text can't stand there
abbrev pub spelled : List ℕ → Option (List ℕ)
spelled [] = Some []
spelled (b ∷ []) = if stands_for_itself b then Some (b ∷ []) else None
spelled (b ∷ c ∷ []) = if stands_for_itself b then option_map (λ bytes. b ∷ bytes) (spelled (c ∷ [])) else None
spelled (b ∷ c ∷ d ∷ more) =
    if stands_for_itself b then option_map (λ bytes. b ∷ bytes) (spelled (c ∷ d ∷ more))
    else if b == 37 then option_and_then (λ byte. option_map (λ bytes. byte ∷ bytes) (spelled more)) (hex_byte c d)
    else None

-- what a word spells: `%` alone is the empty string, and the empty text is no word
abbrev pub word_bytes : List ℕ → Option (List ℕ)
word_bytes [] = None
word_bytes (b ∷ []) = if b == 37 then Some [] else spelled (b ∷ [])
word_bytes (b ∷ c ∷ more) = spelled (b ∷ c ∷ more)
