-- Two hexadecimal digits, as the crate `hex` decodes them.
use Rattle.std.proofs.Common.{◌≡◌, ℕ, ◌+◌, ◌*◌, List, [], ◌∷◌, Option, Some, None, Result, Ok, Err, option_map, option_and_then, MatchResult, slice_index, sym, ap, refl}
use Rattle.hex.specs.declared.error.FromHexError.{FromHexError}
use Rattle.hex.specs.Hex.{hex_digit_value, digit_or_error, decode_pairs, decode_sized, ◌>>=◌}
use Rattle.text_lines.specs.Words.{hex_byte}

joined : Option ℕ → Option ℕ → Option ℕ
joined a b = option_and_then (λ h. option_map (λ l. h * 16 + l) b) a

decoded : ℕ → ℕ → Option ℕ → Option ℕ → Result (List ℕ) FromHexError
decoded high low a b = (digit_or_error high 0 a >>= λ h. digit_or_error low 1 b >>= λ l. Ok (h * 16 + l)) >>= λ byte. Ok (byte ∷ [])

-- what the call said of the bytes that it wrote, and what it returned
abbrev pub Decodes : Result (Unit {0}) FromHexError → List ℕ → Result (List ℕ) FromHexError → Type 0
Decodes result out read = MatchResult read (λ bytes. (result ≡ Ok tt) × (out ≡ bytes)) (λ e. result ≡ Err e)

abbrev pub Gives : Result (Unit {0}) FromHexError → List ℕ → Option ℕ → Type 0
Gives result out byte = MatchResult result (λ _. byte ≡ Some (slice_index out 0)) (λ _. byte ≡ None)

given : (result : Result (Unit {0}) FromHexError) (out : List ℕ) (high low : ℕ) (a b : Option ℕ) → Decodes result out (decoded high low a b) → Gives result out (joined a b)
unfolding decoded joined
given (Ok _) out high low (Some h) (Some l) d = ap (λ bytes. Some (slice_index bytes 0)) (sym d.1)
given (Err _) out high low (Some h) (Some l) d = cc
given (Ok _) out high low (Some h) None d = cc
given (Err _) out high low (Some h) None d = refl
given (Ok _) out high low None b d = cc
given (Err _) out high low None b d = refl

pub byte_from_pair : (result : Result (Unit {0}) FromHexError) (out : List ℕ) (high low : ℕ) → Decodes result out (decode_sized (high ∷ low ∷ []) 1) → Gives result out (hex_byte high low)
unfolding decode_pairs decoded joined
byte_from_pair result out high low d = given result out high low (hex_digit_value high) (hex_digit_value low) d
