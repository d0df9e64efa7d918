-- Names of organizations, channels and chaincodes.
use Rattle.std.specs.Prelude.{ℕ, ◌==◌, ◌||◌, ◌&&◌, nat_le, Bool, List, length}
use Rattle.std.specs.List.{list_all}

-- a byte from the first to the last, both included
abbrev pub is_between : ℕ → ℕ → ℕ → Bool
is_between first last b = nat_le first b && nat_le b last

-- an ASCII digit, capital or small letter, or one of `.`, `-` and `_`
abbrev pub is_name_byte : ℕ → Bool
is_name_byte b = is_between 48 57 b || is_between 65 90 b || is_between 97 122 b || b == 46 || b == 45 || b == 95

-- the most bytes of a name
abbrev pub max_name_bytes : ℕ
max_name_bytes = 64

-- 1 to 64 such bytes
abbrev pub is_name : List ℕ → Bool
is_name bytes = nat_le 1 (length bytes) && nat_le (length bytes) max_name_bytes && list_all is_name_byte bytes
