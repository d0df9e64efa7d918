-- INTEGER in X.690's own words. Section numbers are X.690's.
use Rattle.std.specs.Prelude.{◌≡◌, ◌≢◌, ◌<◌, ◌≤◌, ◌^◌, ◌⊎◌, ℕ, List, length, slice_index}
use Rattle.byteorder.specs.Endian.{big_number}
use Rattle.header_hash.specs.Der.{element, integer}

-- the octets are the contents octets of the INTEGER n, a number that isn't negative
pub record AreContentsOf (n : ℕ) (octets : List ℕ) : Type 0 where
  -- there is one at least (8.3.1)
  pub some : 1 ≤ length octets
  -- the octets in order are the number (8.3.3)
  pub value : big_number (length octets) octets ≡ n
  -- bit 8 of the first octet is the sign, 0 for a number that isn't negative (8.3.3)
  pub sign : slice_index octets 0 < 128
  -- of more than one octet the first octet and bit 8 of the second aren't all zeros (8.3.2 b)
  pub minimal : 1 < length octets → (slice_index octets 0 ≢ 0) ⊎ (128 ≤ slice_index octets 1)

-- each is a number of eight bits
abbrev pub AreOctets : List ℕ → Type 0
AreOctets octets = (i : ℕ) → slice_index octets i < 256

-- A number of 64 bits is encoded as tag 2, the length in the short form and its contents octets, and no other octets
-- are its contents.
abbrev pub IntegersAreMinimal : Type 0
IntegersAreMinimal =
    (n : ℕ) → n < 2 ^ 64
    → (octets : List ℕ) × (integer n ≡ element 0x02 octets) × AreOctets octets × AreContentsOf n octets
    × ((others : List ℕ) → AreOctets others → AreContentsOf n others → others ≡ octets)
