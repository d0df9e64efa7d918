-- The numbers of keys: their places in a list of keys. No public contract cites this.
use Rattle.std.specs.Prelude.{ℕ, suc, List, [], ◌∷◌, Option, Some, None, option_map, if◌then◌else◌}
use Rattle.rules.specs.State.{StateKey, is_same_key}

abbrev pub number_in : List StateKey → StateKey → Option ℕ
number_in [] k = None
number_in (x ∷ xs) k = if is_same_key k x then Some 0 else option_map suc (number_in xs k)
