-- A header's DER bytes: SEQUENCE { INTEGER number, OCTET STRING previous, OCTET STRING data hash }.
-- Section numbers are X.690's.
use Rattle.std.specs.Prelude.{ℕ, ◌+◌, ◌-◌, ◌*◌, ◌^◌, nat_le, List, [], ◌∷◌, ◌++◌, length, count_by}
use Rattle.byteorder.specs.Endian.{big_bytes}
use Rattle.block.specs.declared.block.Header.{Header}
use Rattle.block.specs.declared.block.Previous.{Previous}
use Rattle.block.specs.declared.block.Previous.TheVariants.{Empty, Hash}

-- identifier octet, length in the short form (8.1.3.4), contents octets
abbrev pub element : ℕ → List ℕ → List ℕ
element tag contents = tag ∷ length contents ∷ contents

-- Two's complement in k octets has the numbers below 2 ^ (8 * k - 1), and a minimal INTEGER (8.3.2) as many octets
-- as it needs. For a number below 2 ^ 71 they are one more than the counts, from 1 to 8, that are too few for it.
abbrev pub integer_octets : ℕ → ℕ
integer_octets n = 1 + count_by (λ k. nat_le (2 ^ (8 * k - 1)) n) (1 ∷ 2 ∷ 3 ∷ 4 ∷ 5 ∷ 6 ∷ 7 ∷ 8 ∷ [])

-- the number in that many octets, the highest first (8.3.3)
abbrev pub integer : ℕ → List ℕ
integer n = element 0x02 (big_bytes (integer_octets n) n)

abbrev pub octet_string : List ℕ → List ℕ
octet_string octets = element 0x04 octets

abbrev pub sequence : List ℕ → List ℕ
sequence elements = element 0x30 elements

-- the header hash of the block before, empty at block 0
abbrev pub previous_octets : Previous → List ℕ
previous_octets Empty = []
previous_octets (Hash h) = h

abbrev pub der_of : Header → List ℕ
der_of h = sequence (integer h.number ++ octet_string (previous_octets h.previous) ++ octet_string h.data_hash)
