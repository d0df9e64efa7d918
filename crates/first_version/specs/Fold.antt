-- One block: its candidates taken one by one in order.
use Rattle.std.specs.Prelude.{ℕ, zero, suc, List, [], ◌++◌, length, map, Bool, if◌then◌else◌}
use Rattle.std.specs.List.{range_with_len}
use Rattle.rules.specs.declared.flag.Flag.{Flag}
use Rattle.rules.specs.declared.row.Row.{Row}
use Rattle.rules.specs.declared.history.HistoryEntry.{HistoryEntry}
use Rattle.rules.specs.Flags.{is_valid}
use Rattle.rules.specs.State.{StateKey, State, ChangeOf}
use Rattle.first_version.specs.Job.{Job, candidate_at, version_of, touched_by, changes_by, entries_by, flag_by, endorsement, reads, state_after}

-- what runs along: the state now, and the keys whose policy was touched
pub record Running : Type 0 where
  pub state : State
  pub touched : List StateKey

abbrev pub endorsed_in : Job → ℕ → Running → Bool
endorsed_in j i r = endorsement j i r.touched

abbrev pub flag_in : Job → ℕ → Running → Flag
flag_in j i r = flag_by (candidate_at j i) (endorsed_in j i r) (reads j i r.state)

-- A valid candidate is applied. The keys whose policy is written by one that passes the endorsement rule are touched
-- for all later ones, also if its reads fail.
abbrev pub step : Job → ℕ → Running → Running
step j i r = record {
  state = if is_valid (flag_in j i r) then state_after j i r.state else r.state;
  touched = if endorsed_in j i r then r.touched ++ touched_by (candidate_at j i) else r.touched;
}

-- what runs along before candidate i
unfoldable pub running : Job → ℕ → Running
running j zero = record { state = j.state; touched = [] }
running j (suc i) = step j i (running j i)

-- the verdicts of candidate i
abbrev pub endorsed : Job → ℕ → Bool
endorsed j i = endorsed_in j i (running j i)

abbrev pub flag : Job → ℕ → Flag
flag j i = flag_in j i (running j i)

-- ---- all candidates

abbrev pub flags : Job → List Flag
flags j = map (flag j) (range_with_len 0 (length j.candidates))

abbrev pub final_state : Job → State
final_state j = (running j (length j.candidates)).state

-- the changes and the history entries of the valid ones before i, in order
unfoldable pub changes_to : Job → ℕ → List (ChangeOf Row)
changes_to j zero = []
changes_to j (suc i) = changes_to j i ++ (if is_valid (flag j i) then changes_by (version_of j i) (candidate_at j i) (running j i).state else [])

unfoldable pub entries_to : Job → ℕ → List (StateKey × HistoryEntry)
entries_to j zero = []
entries_to j (suc i) = entries_to j i ++ (if is_valid (flag j i) then entries_by (version_of j i) (candidate_at j i) else [])
