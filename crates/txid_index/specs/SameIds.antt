-- A step between the marks and the code: lists of the same ids.
use Rattle.std.specs.Prelude.{◌≡◌, ℕ, List}
use Rattle.std.specs.Str.{bytes_eq}
use Rattle.std.specs.List.{list_any}

abbrev pub HaveSameIds : List (List ℕ) → List (List ℕ) → Type 0
HaveSameIds xs ys = (q : List ℕ) → list_any (bytes_eq q) xs ≡ list_any (bytes_eq q) ys
