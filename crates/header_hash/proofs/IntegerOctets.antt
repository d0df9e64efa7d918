-- The count of an INTEGER's octets, by the number's length in bits.
use Rattle.std.proofs.Common.{◌≡◌, ℕ, suc, ◌+◌, ◌-◌, ◌*◌, ◌/◌, ◌^◌, ◌<◌, ◌≤◌, [], ◌∷◌, sym, ap, ◌∙◌, arith, inl, inr}
use Rattle.std.specs.Prelude.{nat_le, count_by}
use Rattle.std.specs.Int.{w64, leading_zeros, div_ceil}
use Rattle.std.proofs.Math.Nat.{pow-suc}
use Rattle.std.proofs.Math.Pow.{pow_mono}
use Rattle.std.proofs.lemmas.Bool.{cases_lt}
use Rattle.std.proofs.lemmas.Bool.Decides.{nat_tests}
use Rattle.std.proofs.lemmas.Nat.{leading_length}
use Rattle.header_hash.specs.Der.{integer_octets}

-- two tests that fail are one, and two that pass
both_fail : (a b c d : ℕ) → b < a → d < c → nat_le a b ≡ nat_le c d
both_fail a b c d h k = grind (arith, nat_tests)

both_pass : (a b c d : ℕ) → a ≤ b → c ≤ d → nat_le a b ≡ nat_le c d
both_pass a b c d h k = grind (arith, nat_tests)

-- a number of m bits reaches 2 ^ j if it has more than j bits
passes : (j n m : ℕ) → n < 2 ^ m → 2 ^ m ≤ 2 * n + 1 → nat_le (2 ^ j) n ≡ nat_le (suc j) m
passes j n m below reached = elim (cases_lt m (suc j)) [
  | inl few ↦
      let powers : 2 ^ m ≤ 2 ^ j = pow_mono (omega arith) in
      both_fail (2 ^ j) n (suc j) m (omega arith) few
  | inr many ↦
      let powers : 2 ^ suc j ≤ 2 ^ m = pow_mono many in
      both_pass (2 ^ j) n (suc j) m (omega (arith, pow-suc 2 j)) many
]

-- the number of whole bytes in m bits
whole_bytes : (m : ℕ) → m ≤ 64 → count_by (λ k. nat_le (8 * k) m) (1 ∷ 2 ∷ 3 ∷ 4 ∷ 5 ∷ 6 ∷ 7 ∷ 8 ∷ []) ≡ m / 8
whole_bytes m h = grind (arith, nat_tests)

-- a number of m bits takes as many octets as there are whole bytes in its bits, and one more
pub integer_octets-bits : (n m : ℕ) → m ≤ 64 → n < 2 ^ m → 2 ^ m ≤ 2 * n + 1 → integer_octets n ≡ m / 8 + 1
integer_octets-bits n m h below reached =
    let test = λ (j : ℕ). passes j n m below reached in
    rw (test 7, test 15, test 23, test 31, test 39, test 47, test 55, test 63) (omega (arith, whole_bytes m h))

-- the count by leading zeros, as the code makes it
pub integer_octets-leading_zeros : (n : ℕ) → n < 2 ^ 64 → integer_octets n ≡ (64 - leading_zeros w64 n) / 8 + 1
integer_octets-leading_zeros n h =
    let length = leading_length 64 n h in
    let bits : 64 - leading_zeros w64 n ≡ length.0 = omega (arith, length.1) in
    let count : integer_octets n ≡ length.0 / 8 + 1 = integer_octets-bits n length.0 (omega (arith, length.1)) length.2 length.3 in
    count ∙ ap (λ b. b / 8 + 1) (sym bits)

-- the octets of `bits` bits and a sign bit
pub bits_and_sign : (bits : ℕ) → div_ceil (bits + 1) 8 ≡ bits / 8 + 1
bits_and_sign bits = grind (arith, nat_tests)
