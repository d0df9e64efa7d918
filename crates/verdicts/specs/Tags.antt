-- What signatures are found by: their last four bytes. What a verdict means rests on none of it.
use Rattle.std.specs.Prelude.{ℕ, ◌+◌, ◌-◌, ◌*◌, List, length, nat_lt, slice_index, if◌then◌else◌}

abbrev pub tag_of : List ℕ → ℕ
tag_of s =
    if nat_lt (length s) 4 then 0
    else slice_index s (length s - 4) * 16777216 + slice_index s (length s - 3) * 65536 + slice_index s (length s - 2) * 256 + slice_index s (length s - 1)
