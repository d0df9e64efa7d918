-- The history entries of what a transaction writes, key by key. No public contract cites this.
use Rattle.std.specs.Prelude.{◌≡◌, ℕ, List, [], ◌∷◌, flat_map, Option, Some, None}
use Rattle.transaction.specs.declared.transaction.Version.{Version}
use Rattle.rules.specs.declared.delta.NewEntry.{NewEntry}
use Rattle.rules.specs.declared.history.HistoryEntry.{HistoryEntry}
use Rattle.rules.specs.Delta.{entries_in}
use Rattle.rules.specs.Fold.{entries_to}
use Rattle.rules.specs.History.{History, with_entries}
use Rattle.rules.specs.Job.{Job}
use Rattle.rules.specs.State.{StateKey}
use Rattle.candidates.specs.declared.written_key.WrittenKey.{WrittenKey}

-- that of a key, if its value is written
abbrev pub entry_at : Version → List ℕ → StateKey → Option (Option (List ℕ)) → List (StateKey × HistoryEntry)
entry_at v id k None = []
entry_at v id k (Some value) = (k, record { version = v; id = id; value = value }) ∷ []

abbrev pub entry_written : Version → List ℕ → WrittenKey → List (StateKey × HistoryEntry)
entry_written v id w = entry_at v id w.key w.value

abbrev pub entries_written : Version → List ℕ → List WrittenKey → List (StateKey × HistoryEntry)
entries_written v id ws = flat_map (entry_written v id) ws

-- Added to any history, they give what the entries of the candidates before i give.
abbrev pub MakeHistory : Job → List NewEntry → ℕ → Type 0
MakeHistory j es i = (h : History) → with_entries h (entries_in es) ≡ with_entries h (entries_to j i)
