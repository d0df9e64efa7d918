-- Worked rows of the DER bytes, with the numbers at which an INTEGER gets one octet more.
use Rattle.std.proofs.Common.{◌≡◌, ℕ, ◌+◌, ◌-◌, ◌^◌, List, [], ◌∷◌, ◌++◌, length, refl, ap, ◌∙◌, append_assoc, length-append, arith}
use Rattle.block.specs.declared.block.Header.{Header}
use Rattle.block.specs.declared.block.Previous.TheVariants.{Empty, Hash}
use Rattle.header_hash.specs.Der.{der_of, integer, octet_string, sequence}

abbrev first_block : List ℕ → Header
first_block data_hash = record { number = 0; previous = Empty; data_hash = data_hash }

abbrev later_block : ℕ → List ℕ → List ℕ → Header
later_block number previous data_hash = record { number = number; previous = Hash previous; data_hash = data_hash }

-- SHA-256 of no bytes
abbrev hash_of_nothing : List ℕ
hash_of_nothing =
    0xe3 ∷ 0xb0 ∷ 0xc4 ∷ 0x42 ∷ 0x98 ∷ 0xfc ∷ 0x1c ∷ 0x14 ∷ 0x9a ∷ 0xfb ∷ 0xf4 ∷ 0xc8 ∷ 0x99 ∷ 0x6f ∷ 0xb9 ∷ 0x24
    ∷ 0x27 ∷ 0xae ∷ 0x41 ∷ 0xe4 ∷ 0x64 ∷ 0x9b ∷ 0x93 ∷ 0x4c ∷ 0xa4 ∷ 0x95 ∷ 0x99 ∷ 0x1b ∷ 0x78 ∷ 0x52 ∷ 0xb8 ∷ 0x55 ∷ []

pub empty_block_0 : der_of (first_block hash_of_nothing) ≡ 0x30 ∷ 0x27 ∷ 0x02 ∷ 0x01 ∷ 0x00 ∷ 0x04 ∷ 0x00 ∷ 0x04 ∷ 0x20 ∷ hash_of_nothing
empty_block_0 = refl

pub length-empty_block_0 : length (der_of (first_block hash_of_nothing)) ≡ 41
length-empty_block_0 = refl

-- the two hashes of a later block as elements
abbrev hashes : List ℕ → List ℕ → List ℕ
hashes previous data_hash = (0x04 ∷ 0x20 ∷ previous) ++ (0x04 ∷ 0x20 ∷ data_hash)

length-hashes : (p d : List ℕ) → length p ≡ 32 → length d ≡ 32 → length (hashes p d) ≡ 68
length-hashes p d hp hd = omega (arith, length-append p (0x04 ∷ 0x20 ∷ d))

-- hashes of 32 bytes after any element
behind : (first p d : List ℕ) → length p ≡ 32 → length d ≡ 32
    → sequence (first ++ octet_string p ++ octet_string d) ≡ 0x30 ∷ (length first + 68) ∷ (first ++ hashes p d)
behind first p d hp hd =
    let regrouped : first ++ octet_string p ++ octet_string d ≡ first ++ hashes p d =
    append_assoc first (octet_string p) (octet_string d)
    ∙ ap (λ (k : ℕ). first ++ ((0x04 ∷ k ∷ p) ++ octet_string d)) hp
    ∙ ap (λ (k : ℕ). first ++ ((0x04 ∷ 0x20 ∷ p) ++ (0x04 ∷ k ∷ d))) hd in
    let count : length (first ++ hashes p d) ≡ length first + 68 = omega (arith, length-append first (hashes p d), length-hashes p d hp hd) in
    ap sequence regrouped ∙ ap (λ (k : ℕ). 0x30 ∷ k ∷ (first ++ hashes p d)) count

pub number_127 : (p d : List ℕ) → length p ≡ 32 → length d ≡ 32
    → der_of (later_block 127 p d) ≡ 0x30 ∷ 0x47 ∷ 0x02 ∷ 0x01 ∷ 0x7f ∷ hashes p d
number_127 p d hp hd = behind (integer 127) p d hp hd

pub length-number_127 : (p d : List ℕ) → length p ≡ 32 → length d ≡ 32 → length (der_of (later_block 127 p d)) ≡ 73
length-number_127 p d hp hd = ap length (number_127 p d hp hd) ∙ omega (arith, length-hashes p d hp hd)

pub number_128 : (p d : List ℕ) → length p ≡ 32 → length d ≡ 32
    → der_of (later_block 128 p d) ≡ 0x30 ∷ 0x48 ∷ 0x02 ∷ 0x02 ∷ 0x00 ∷ 0x80 ∷ hashes p d
number_128 p d hp hd = behind (integer 128) p d hp hd

pub length-number_128 : (p d : List ℕ) → length p ≡ 32 → length d ≡ 32 → length (der_of (later_block 128 p d)) ≡ 74
length-number_128 p d hp hd = ap length (number_128 p d hp hd) ∙ omega (arith, length-hashes p d hp hd)

pub number_32767 : (p d : List ℕ) → length p ≡ 32 → length d ≡ 32
    → der_of (later_block 32767 p d) ≡ 0x30 ∷ 0x48 ∷ 0x02 ∷ 0x02 ∷ 0x7f ∷ 0xff ∷ hashes p d
number_32767 p d hp hd = behind (integer 32767) p d hp hd

pub length-number_32767 : (p d : List ℕ) → length p ≡ 32 → length d ≡ 32 → length (der_of (later_block 32767 p d)) ≡ 74
length-number_32767 p d hp hd = ap length (number_32767 p d hp hd) ∙ omega (arith, length-hashes p d hp hd)

pub number_32768 : (p d : List ℕ) → length p ≡ 32 → length d ≡ 32
    → der_of (later_block 32768 p d) ≡ 0x30 ∷ 0x49 ∷ 0x02 ∷ 0x03 ∷ 0x00 ∷ 0x80 ∷ 0x00 ∷ hashes p d
number_32768 p d hp hd = behind (integer 32768) p d hp hd

pub length-number_32768 : (p d : List ℕ) → length p ≡ 32 → length d ≡ 32 → length (der_of (later_block 32768 p d)) ≡ 75
length-number_32768 p d hp hd = ap length (number_32768 p d hp hd) ∙ omega (arith, length-hashes p d hp hd)

pub number_2_to_63 : (p d : List ℕ) → length p ≡ 32 → length d ≡ 32
    → der_of (later_block (2 ^ 63) p d) ≡ 0x30 ∷ 0x4f ∷ 0x02 ∷ 0x09 ∷ 0x00 ∷ 0x80 ∷ 0x00 ∷ 0x00 ∷ 0x00 ∷ 0x00 ∷ 0x00 ∷ 0x00 ∷ 0x00 ∷ hashes p d
number_2_to_63 p d hp hd = behind (integer (2 ^ 63)) p d hp hd

pub length-number_2_to_63 : (p d : List ℕ) → length p ≡ 32 → length d ≡ 32 → length (der_of (later_block (2 ^ 63) p d)) ≡ 81
length-number_2_to_63 p d hp hd = ap length (number_2_to_63 p d hp hd) ∙ omega (arith, length-hashes p d hp hd)

pub number_2_to_64_less_1 : (p d : List ℕ) → length p ≡ 32 → length d ≡ 32
    → der_of (later_block (2 ^ 64 - 1) p d) ≡ 0x30 ∷ 0x4f ∷ 0x02 ∷ 0x09 ∷ 0x00 ∷ 0xff ∷ 0xff ∷ 0xff ∷ 0xff ∷ 0xff ∷ 0xff ∷ 0xff ∷ 0xff ∷ hashes p d
number_2_to_64_less_1 p d hp hd = behind (integer (2 ^ 64 - 1)) p d hp hd

pub length-number_2_to_64_less_1 : (p d : List ℕ) → length p ≡ 32 → length d ≡ 32 → length (der_of (later_block (2 ^ 64 - 1) p d)) ≡ 81
length-number_2_to_64_less_1 p d hp hd = ap length (number_2_to_64_less_1 p d hp hd) ∙ omega (arith, length-hashes p d hp hd)
