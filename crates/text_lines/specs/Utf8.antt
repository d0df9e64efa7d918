-- Where bytes stop being text.
use Rattle.std.specs.Prelude.{ℕ, ◌+◌, ◌==◌, List, take, count_by}
use Rattle.std.specs.Str.Lossy.{utf8_valid_len}

-- the number, counted from 1, of the line in which the longest front that is UTF-8 ends
abbrev pub first_bad_line : List ℕ → ℕ
first_bad_line bytes = count_by (λ b. b == 10) (take (utf8_valid_len bytes) bytes) + 1
