-- Answers of queries: each is a function of one world. A `Reply` adds the world's height, and its last header hash and commit hash.
use Rattle.std.specs.Prelude.{ℕ, nat_lt, List, length, take, Bool, Option, option_map, slice_get}
use Rattle.std.specs.FinMap.{get}
use Rattle.policy.specs.Text.{text_of}
use Rattle.rules.specs.declared.committed.CommittedBlock.{CommittedBlock}
use Rattle.rules.specs.declared.first_use.FirstUse.{FirstUse}
use Rattle.rules.specs.declared.history.HistoryEntry.{HistoryEntry}
use Rattle.rules.specs.declared.row.Row.{Row}
use Rattle.rules.specs.State.{StateKey}
use Rattle.rules.specs.History.{entries_at}
use Rattle.rules.specs.Ranges.{is_within, rows_where}
use Rattle.rules.specs.World.{World, height_of, last_header_hash, last_commit_hash}

pub record Reply (A : Type 0) : Type 0 where
  pub height : ℕ
  -- neither at height 0
  pub header_hash : Option (List ℕ)
  pub commit_hash : Option (List ℕ)
  pub answer : A

abbrev pub reply : {A : Type 0} → World → A → Reply A
reply w x = record { height = height_of w; header_hash = last_header_hash w; commit_hash = last_commit_hash w; answer = x }

abbrev pub row_answer : World → StateKey → Option Row
row_answer w k = get w.state k

-- rows in the order of their keys up to a limit, and whether some are left
pub record RangeAnswer : Type 0 where
  pub rows : List (StateKey × Row)
  pub more : Bool

-- the rows of a namespace from a start to before an end, an empty end being no bound
abbrev pub range_answer : World → List ℕ → List ℕ → List ℕ → ℕ → RangeAnswer
range_answer w namespace start end limit =
    let rows = rows_where w.state namespace (is_within start end) in
    record { rows = take limit rows; more = nat_lt limit (length rows) }

-- the newest first
abbrev pub history_answer : World → StateKey → List HistoryEntry
history_answer w k = entries_at w.history k

abbrev pub first_use_answer : World → List ℕ → Option FirstUse
first_use_answer w id = get w.first_uses id

-- the canonical text of a chaincode's policy
abbrev pub definition_answer : World → List ℕ → Option (List ℕ)
definition_answer w chaincode = option_map text_of (get w.definitions chaincode)

-- the block of a number
abbrev pub block_answer : World → ℕ → Option CommittedBlock
block_answer w n = slice_get w.blocks n

-- the number of the next block
abbrev pub height_answer : World → ℕ
height_answer w = height_of w
