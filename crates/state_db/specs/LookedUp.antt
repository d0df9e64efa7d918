-- Rows that were looked up.
use Rattle.std.specs.Prelude.{◌≡◌, List, Option, map}
use Rattle.std.specs.Borrow.{Bor}
use Rattle.std.specs.Option.{option_copied}
use Rattle.std.specs.FinMap.{get}
use Rattle.rules.specs.State.{State, StateKey}
use Rattle.rules.specs.declared.row.Row.{Row}

-- What a state has at each of these keys, in their order. Where `a` has the row r and `b` has none, the rows of `b`, `a` are
-- none, r.
abbrev pub AreRows : State → List StateKey → List (Option (Bor Row)) → Type 0
AreRows s keys rows = map option_copied rows ≡ map (get s) keys
