-- What a kept entry is, by what it keeps. No public contract cites this.
use Rattle.std.specs.Prelude.{ℕ, ◌+◌, List, Bool, Some, None, if◌then◌else◌}
use Rattle.std.specs.List.{between}
use Rattle.rules.specs.declared.delta.NewEntry.{NewEntry}
use Rattle.rules.specs.declared.row.Row.{Row}
use Rattle.rules.specs.State.{StateKey}

-- the id that stands in these bytes, from a place on
abbrev pub id_in : List ℕ → ℕ → List ℕ
id_in whole start = between start (start + 64) whole

-- that of a delete, or of a write of the row's value
abbrev pub entry_of : StateKey × Row → List ℕ → Bool → NewEntry
entry_of row id is_delete = record { key = row.0; entry = record { version = row.1.version; id = id; value = if is_delete then None else Some row.1.value } }
