-- Labels that strictly rise. No public contract cites this.
use Rattle.std.specs.Prelude.{ℕ, List, Bool, map}
use Rattle.std.specs.FinMap.{is_sorted}
use Rattle.values.specs.Order.{bytes_cmp}

abbrev pub are_rising : List (List ℕ) → Bool
are_rising xs = is_sorted {X = Unit {0}} bytes_cmp (map (λ x. (x, tt)) xs)
