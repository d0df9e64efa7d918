-- Of numbers that fall, the last that passes a test, which is the least. No public contract cites this.
use Rattle.std.specs.Prelude.{ℕ, Bool, List, [], ◌∷◌, if◌then◌else◌, Option, Some, None}
use Rattle.std.specs.Option.{option_or}

abbrev pub last_passing : (ℕ → Bool) → List ℕ → Option ℕ
last_passing test [] = None
last_passing test (h ∷ hs) = option_or (last_passing test hs) (if test h then Some h else None)
