-- A number has the contents octets of only one INTEGER.
use Rattle.std.proofs.Common.{◌≡◌, ℕ, zero, suc, ◌*◌, ◌^◌, ◌<◌, ◌≤◌, List, [], ◌∷◌, length, refl, sym, ap, ◌∙◌, arith, inl, inr}
use Rattle.std.specs.Int.{byte_at}
use Rattle.std.proofs.Math.Nat.{mul-le-mul_right, one-le-pow, pow-le-pow_right, pow-suc}
use Rattle.std.proofs.lemmas.Bool.{cases_lt}
use Rattle.std.proofs.lemmas.Nat.{same_from_place}
use Rattle.byteorder.specs.Endian.{big_bytes, big_number, big_from}
use Rattle.byteorder.specs.Numbers.{big_from-cons, big_from-lt}
use Rattle.header_hash.specs.Minimal.{AreContentsOf, AreOctets}

-- a number that takes one octet more than j: with the sign bit it fits them, and not fewer
pub record Needs (j n : ℕ) : Type 0 where
  pub fits : n < 128 * 256 ^ j
  pub needed : (i : ℕ) → j ≡ suc i → 128 * 256 ^ i ≤ n

pub pow_pos256 : (j : ℕ) → 0 < 256 ^ j
pow_pos256 j = omega (arith, one-le-pow j 256 (omega arith))

-- of two counts of octets the first isn't less
not_fewer : (j k n : ℕ) → Needs j n → Needs k n → k ≤ j
not_fewer j zero n few many = omega arith
not_fewer j (suc i) n few many = elim (cases_lt j (suc i)) [
  | inl less ↦
      let powers : 256 ^ j ≤ 256 ^ i = pow-le-pow_right {n = 256} (omega arith) (omega arith) in
      absurd (omega (arith, few.fits, many.needed i refl))
  | inr more ↦ more
]

-- a first octet that can't be left out bounds the number from below
needed_of_contents : (x : ℕ) (rest : List ℕ) (n i : ℕ) → AreContentsOf n (x ∷ rest) → length rest ≡ suc i → 128 * 256 ^ i ≤ n
needed_of_contents x [] n i contents count = absurd (omega arith)
needed_of_contents x (y ∷ ys) n i contents count =
    let power : 256 ^ length ys ≡ 256 ^ i = ap (λ (k : ℕ). 256 ^ k) (omega arith) in
    elim (contents.minimal (omega arith)) [
      | inl set ↦
          let first : 1 * 256 ^ suc (length ys) ≤ x * 256 ^ suc (length ys) = mul-le-mul_right (256 ^ suc (length ys)) (omega (arith, set)) in
          omega (arith, contents.value, pow-suc 256 (length ys))
      | inr high ↦
          let second : 128 * 256 ^ length ys ≤ y * 256 ^ length ys = mul-le-mul_right (256 ^ length ys) high in
          omega (arith, contents.value)
    ]

-- what X.690 requires of octets bounds their number
needs_of_contents : (x : ℕ) (rest : List ℕ) (n : ℕ) → AreOctets (x ∷ rest) → AreContentsOf n (x ∷ rest) → Needs (length rest) n
needs_of_contents x rest n are contents = record {
  fits =
      let low = big_from-lt 1 (length rest) (x ∷ rest) are in
      let high : x * 256 ^ length rest ≤ 127 * 256 ^ length rest = mul-le-mul_right (256 ^ length rest) (omega (arith, contents.sign)) in
      omega (arith, contents.value);
  needed = λ i. needed_of_contents x rest n i contents;
}

-- a number has one list of octets of each length
same_octets : (xs ys : List ℕ) → length xs ≡ length ys → AreOctets xs → AreOctets ys → big_number (length xs) xs ≡ big_number (length xs) ys → xs ≡ ys
same_octets [] [] count xs_are ys_are same = refl
same_octets [] (y ∷ ys) count xs_are ys_are same = absurd (omega arith)
same_octets (x ∷ xs) [] count xs_are ys_are same = absurd (omega arith)
same_octets (x ∷ xs) (y ∷ ys) count xs_are ys_are same =
    let places = same_from_place x (big_from 0 (length xs) xs) y (big_from 0 (length xs) ys) (256 ^ length xs)
    (big_from-lt 0 (length xs) xs (λ i. xs_are (suc i))) (big_from-lt 0 (length xs) ys (λ i. ys_are (suc i)))
    (omega (arith, same, big_from-cons 0 (length xs) x xs, big_from-cons 0 (length xs) y ys)) in
    let rest = same_octets xs ys (omega (arith, count)) (λ i. xs_are (suc i)) (λ i. ys_are (suc i)) places.1 in
    cc

-- two lists of contents octets of one number are the same
pub one_contents : (n : ℕ) (xs ys : List ℕ) → AreOctets xs → AreOctets ys → AreContentsOf n xs → AreContentsOf n ys → xs ≡ ys
one_contents n [] ys xs_are ys_are xs_contents ys_contents = absurd (omega (arith, xs_contents.some))
one_contents n (x ∷ xs) [] xs_are ys_are xs_contents ys_contents = absurd (omega (arith, ys_contents.some))
one_contents n (x ∷ xs) (y ∷ ys) xs_are ys_are xs_contents ys_contents =
    let xs_needs = needs_of_contents x xs n xs_are xs_contents in
    let ys_needs = needs_of_contents y ys n ys_are ys_contents in
    let count : length (x ∷ xs) ≡ length (y ∷ ys) = omega (arith, not_fewer _ _ n xs_needs ys_needs, not_fewer _ _ n ys_needs xs_needs) in
    same_octets (x ∷ xs) (y ∷ ys) count xs_are ys_are
    (xs_contents.value ∙ sym ys_contents.value ∙ ap (λ (k : ℕ). big_number k (y ∷ ys)) (sym count))

byte_at-lt : (k n : ℕ) → byte_at k n < 256
byte_at-lt zero n = omega arith
byte_at-lt (suc k) n = omega arith

-- the bytes of a number are octets
pub AreOctets-big_bytes : (k n : ℕ) → AreOctets (big_bytes k n)
AreOctets-big_bytes zero n i = omega arith
AreOctets-big_bytes (suc k) n zero = byte_at-lt k n
AreOctets-big_bytes (suc k) n (suc i) = AreOctets-big_bytes k n i
