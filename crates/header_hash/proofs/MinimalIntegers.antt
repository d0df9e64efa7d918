-- What is proved of an INTEGER's contents octets.
use Rattle.std.proofs.Common.{◌≡◌, ◌≢◌, ℕ, zero, suc, ◌+◌, ◌*◌, ◌/◌, ◌%◌, ◌^◌, ◌<◌, ◌≤◌, [], length, slice_index, refl, sym, ap, subst, ◌∙◌, arith, ◌⊎◌, inl, inr}
use Rattle.std.specs.Int.{byte_at}
use Rattle.std.proofs.Math.Nat.{div-one, pow-suc}
use Rattle.std.proofs.Math.Pow.{pow_mono}
use Rattle.std.proofs.lemmas.Bool.{cases_lt}
use Rattle.std.proofs.lemmas.List.{append-nil}
use Rattle.std.proofs.lemmas.Nat.{div_below, le-div, leading_length, pow-add}
use Rattle.byteorder.specs.Endian.{big_bytes, big_number}
use Rattle.byteorder.specs.Numbers.{big_number-reads_back, length-bytes_high_first}
use Rattle.header_hash.specs.Der.{integer_octets}
use Rattle.header_hash.specs.Minimal.{AreContentsOf, IntegersAreMinimal}
use Rattle.header_hash.proofs.IntegerOctets.{integer_octets-bits}
use Rattle.header_hash.proofs.OneInteger.{Needs, pow_pos256, one_contents, AreOctets-big_bytes}

-- two ways to write the size of j octets
bytes_are_bits : (j : ℕ) → 256 ^ j ≡ 2 ^ (8 * j)
bytes_are_bits zero = refl
bytes_are_bits (suc j) =
    let more : 2 ^ (8 * suc j) ≡ 2 ^ (8 * j) * 2 ^ 8 = ap (λ (e : ℕ). 2 ^ e) (omega arith) ∙ pow-add 2 (8 * j) 8 in
    omega (arith, pow-suc 256 j, bytes_are_bits j, more)

-- a number of m bits takes one octet more than there are whole bytes in them
needs_of_bits : (n m : ℕ) → n < 2 ^ m → 2 ^ m ≤ 2 * n + 1 → Needs (m / 8) n
needs_of_bits n m below reached = record {
  fits =
      let top : 2 ^ m ≤ 2 ^ (8 * (m / 8) + 7) = pow_mono (omega arith) in
      let split : 2 ^ (8 * (m / 8) + 7) ≡ 2 ^ (8 * (m / 8)) * 2 ^ 7 = pow-add 2 (8 * (m / 8)) 7 in
      omega (arith, bytes_are_bits (m / 8), split);
  needed = λ i is.
      let low : 2 ^ (8 * suc i) ≤ 2 ^ m = pow_mono (omega arith) in
      omega (arith, bytes_are_bits (suc i), pow-suc 256 i);
}

-- an octet of a number, by its place
byte_at-pow : (j n : ℕ) → byte_at j n ≡ n / 256 ^ j % 256
byte_at-pow zero n = ap (λ (k : ℕ). k % 256) (sym (div-one n))
byte_at-pow (suc j) n = refl

-- the first octet is all of the number above the others
first_octet : (j n : ℕ) → n < 128 * 256 ^ j → byte_at j n ≡ n / 256 ^ j
first_octet j n h =
    let small = div_below n (256 ^ j) 128 (pow_pos256 j) h in
    byte_at-pow j n ∙ omega arith

-- the first octet, or bit 8 of the second, is set
minimal_of : (j n : ℕ) → Needs j n → 1 < length (big_bytes (suc j) n) → (slice_index (big_bytes (suc j) n) 0 ≢ 0) ⊎ (128 ≤ slice_index (big_bytes (suc j) n) 1)
minimal_of zero n needs long = absurd (omega arith)
minimal_of (suc i) n needs long = elim (cases_lt n (256 ^ suc i)) [
  | inl low ↦
      let below : n / 256 ^ i < 256 = div_below n (256 ^ i) 256 (pow_pos256 i) (omega (arith, pow-suc 256 i)) in
      let above : 128 ≤ n / 256 ^ i = le-div 128 n (256 ^ i) (pow_pos256 i) (needs.needed i refl) in
      inr (omega (arith, byte_at-pow i n))
  | inr high ↦
      let above : 1 ≤ n / 256 ^ suc i = le-div 1 n (256 ^ suc i) (pow_pos256 (suc i)) (omega arith) in
      inl (λ is. omega (arith, first_octet (suc i) n needs.fits))
]

-- a number's lowest octets are its contents octets, if it needs that many
contents_of : (j n : ℕ) → Needs j n → AreContentsOf n (big_bytes (suc j) n)
contents_of j n needs = record {
  some = omega (arith, length-bytes_high_first (suc j) n);
  value =
      let read = big_number-reads_back (suc j) n [] (omega (arith, pow-suc 256 j, needs.fits)) in
      ap (λ (k : ℕ). big_number k (big_bytes (suc j) n)) (length-bytes_high_first (suc j) n)
      ∙ ap (big_number (suc j)) (sym (append-nil (big_bytes (suc j) n))) ∙ read;
  sign =
      let small = div_below n (256 ^ j) 128 (pow_pos256 j) needs.fits in
      omega (arith, first_octet j n needs.fits);
  minimal = minimal_of j n needs;
}

pub integers_are_minimal : IntegersAreMinimal
integers_are_minimal n h =
    let bits = leading_length 64 n h in
    let needs = needs_of_bits n bits.0 bits.2 bits.3 in
    let count : suc (bits.0 / 8) ≡ integer_octets n = sym (integer_octets-bits n bits.0 (omega (arith, bits.1)) bits.2 bits.3 ∙ omega arith) in
    let octets = big_bytes (integer_octets n) n in
    let contents : AreContentsOf n octets = subst (λ (k : ℕ). AreContentsOf n (big_bytes k n)) count (contents_of (bits.0 / 8) n needs) in
    let bytes = AreOctets-big_bytes (integer_octets n) n in
    (octets, refl, bytes, contents, λ others are_octets are_contents. one_contents n others octets are_octets bytes are_contents contents)
