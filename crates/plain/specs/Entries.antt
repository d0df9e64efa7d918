-- The entries of one key. No public contract cites this.
use Rattle.std.specs.Prelude.{List, map, filter}
use Rattle.rules.specs.declared.delta.NewEntry.{NewEntry}
use Rattle.rules.specs.declared.history.HistoryEntry.{HistoryEntry}
use Rattle.rules.specs.State.{StateKey, is_same_key}
use Rattle.rules.specs.Delta.{entries_in}

abbrev pub entries_for : StateKey → List NewEntry → List HistoryEntry
entries_for k es = map (λ e. e.1) (filter (λ e. is_same_key k e.0) (entries_in es))
