-- Changes of a state, of which each key has one.
use Rattle.std.specs.Prelude.{Option}
use Rattle.std.specs.FinMap.{entries}
use Rattle.rules.specs.declared.row.Row.{Row}
use Rattle.rules.specs.State.{State, KeyMap, with_changes}

-- what each key has from now on, or none if it is removed
abbrev pub Changes : Type 0
Changes = KeyMap (Option Row)

-- The state with the changes made. Where `a` and `b` have rows, and `b` is removed and `c` has a new row, `a` and `c` have
-- rows then.
abbrev pub changed : State → Changes → State
changed s changes = with_changes s (entries changes)
