-- Keys of rows, and bounds of ranges of keys.
use Rattle.std.specs.Prelude.{ℕ, ◌&&◌, nat_le, Bool, List, length}

-- the most bytes of a key, and of a bound
abbrev pub max_key_bytes : ℕ
max_key_bytes = 1024

-- 1 to 1,024 bytes
abbrev pub is_key : List ℕ → Bool
is_key bytes = nat_le 1 (length bytes) && nat_le (length bytes) max_key_bytes

-- up to 1,024 bytes
abbrev pub is_bound : List ℕ → Bool
is_bound bytes = nat_le (length bytes) max_key_bytes
