-- Labels as a list and as a set. No public contract cites this.
use Rattle.std.specs.Prelude.{◌≡◌, ℕ, List}
use Rattle.std.specs.List.{list_any}
use Rattle.std.specs.Str.{bytes_eq}

-- the same ones are among both
abbrev pub HaveSameLabels : List (List ℕ) → List (List ℕ) → Type 0
HaveSameLabels xs ys = (x : List ℕ) → list_any (bytes_eq x) xs ≡ list_any (bytes_eq x) ys
