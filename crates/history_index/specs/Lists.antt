-- A step between the history and the code: entries in shared lists, one list after the other, and their places, counted
-- from 1.
use Rattle.std.specs.Prelude.{◌≡◌, ℕ, ◌+◌, ◌-◌, ◌<◌, ◌≤◌, List, [], length, map, take, get_or, None}
use Rattle.std.specs.FinMap.{empty}
use Rattle.std.specs.List.{flat_map}
use Rattle.history_index.specs.Places.{last_with}
use Rattle.rules.specs.declared.delta.NewEntry.{NewEntry}
use Rattle.rules.specs.declared.history.HistoryEntry.{HistoryEntry}
use Rattle.rules.specs.State.{StateKey}
use Rattle.rules.specs.Delta.{entries_in}
use Rattle.rules.specs.History.{History, with_entries, entries_at}
use Rattle.history_index.specs.declared.lists.Listed.{Listed}
use Rattle.history_index.specs.Hash.{key_hash}

-- ---- where they are

abbrev pub all_entries : List Listed → List NewEntry
all_entries lists = flat_map (λ l. l.entries) lists

abbrev pub no_entry : NewEntry
no_entry = record { key = ([], []); entry = record { version = record { block = 0; tx = 0 }; id = []; value = None } }

abbrev pub no_list : Listed
no_list = record { first = 0; entries = [] }

-- entry i of all is in this list
pub record IsIn (all : List NewEntry) (i : ℕ) (l : Listed) : Type 0 where
  pub from : l.first ≤ i
  pub within : i - l.first < length l.entries
  pub same : get_or l.entries (i - l.first) no_entry ≡ get_or all i no_entry

-- each entry is in the list whose number is kept for it
pub record AreIn (lists : List Listed) (list_of : List ℕ) : Type 0 where
  pub count : length list_of ≡ length (all_entries lists)
  pub numbers : (i : ℕ) → i < length list_of → get_or list_of i 0 < length lists
  pub places : (i : ℕ) → i < length list_of → IsIn (all_entries lists) i (get_or lists (get_or list_of i 0) no_list)

-- ---- what they make

-- the history that these entries make
abbrev pub history_of : List NewEntry → History
history_of all = with_entries empty (entries_in all)

-- that of a key, of the first n entries
abbrev pub entries_before : List NewEntry → StateKey → ℕ → List HistoryEntry
entries_before all k n = entries_at (history_of (take n all)) k

-- ---- how they are found

abbrev pub hashes_of : List NewEntry → List ℕ
hashes_of all = map (λ e. key_hash e.key) all

-- the place of the last one of the first n entries whose key has the hash of this key
abbrev pub last_before : List NewEntry → StateKey → ℕ → ℕ
last_before all k n = last_with (key_hash k) (take n (hashes_of all))

-- n is 0, or the place of an entry with the hash of the key
abbrev pub IsChain : StateKey → List NewEntry → ℕ → Type 0
IsChain k all n = (n ≤ length all) × (last_before all k n ≡ n)

-- n is 0, or the place of an entry of the key
abbrev pub IsPlace : StateKey → List NewEntry → ℕ → Type 0
IsPlace k all n = (i : ℕ) → i + 1 ≡ n → (get_or all i no_entry).key ≡ k
