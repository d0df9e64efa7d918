-- The history of keys: one entry for each value write or delete of a valid transaction, also of a key that isn't there.
-- Policy writes alone aren't in it (our own).
use Rattle.std.specs.Prelude.{List, [], ◌∷◌, map, flat_map, unwrap_or}
use Rattle.std.specs.FinMap.{get, insert}
use Rattle.transaction.specs.declared.transaction.Version.{Version}
use Rattle.transaction.specs.declared.transaction.Tx.{Tx}
use Rattle.rules.specs.declared.history.HistoryEntry.{HistoryEntry}
use Rattle.rules.specs.State.{StateKey, KeyMap}

-- the entries of each key, the newest first
abbrev pub History : Type 0
History = KeyMap (List HistoryEntry)

abbrev pub entries_at : History → StateKey → List HistoryEntry
entries_at h k = unwrap_or (get h k) []

-- the history with more entries, one after the other
unfoldable pub with_entries : History → List (StateKey × HistoryEntry) → History
with_entries h [] = h
with_entries h (e ∷ es) = with_entries (insert h e.0 (e.1 ∷ entries_at h e.0)) es

-- the entries of a valid transaction, in its order
abbrev pub entries_of : Version → Tx → List (StateKey × HistoryEntry)
entries_of v tx = flat_map (λ n. map (λ w. ((n.name, w.key), record { version = v; id = tx.id; value = w.value })) n.writes) tx.namespaces
