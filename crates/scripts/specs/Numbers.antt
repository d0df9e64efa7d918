-- The numbers of a script.
use Rattle.std.specs.Prelude.{ℕ, ◌&&◌, ◌^◌, nat_le, nat_lt, Bool, if◌then◌else◌, List, length, Option, Some, None}
use Rattle.std.specs.Char.{is_ascii_digit}
use Rattle.std.specs.List.{list_all}
use Rattle.std.specs.Str.Parse.{digits_value}

-- the most digits of a number
abbrev pub max_digits : ℕ
max_digits = 20

-- 1 to 20 decimal digits
abbrev pub is_number : List ℕ → Bool
is_number text = nat_le 1 (length text) && nat_le (length text) max_digits && list_all is_ascii_digit text

-- the number of so many bits that the text writes, or none where it is no number or needs more
abbrev pub number_of : ℕ → List ℕ → Option ℕ
number_of bits text =
    if is_number text then (if nat_lt (digits_value 10 text) (2 ^ bits) then Some (digits_value 10 text) else None) else None
