-- SHA-256 hashes.
use Rattle.std.specs.Prelude.{◌≡◌, ℕ, List, length}

-- the bytes of a hash (FIPS 180-4)
abbrev pub hash_bytes : ℕ
hash_bytes = 32

abbrev pub IsHash : List ℕ → Type 0
IsHash h = length h ≡ hash_bytes
