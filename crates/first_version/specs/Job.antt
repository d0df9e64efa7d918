-- The candidates of one block over the state before it.
use Rattle.std.specs.Prelude.{ℕ, List, [], Bool, true, false, slice_index_or}
use Rattle.transaction.specs.declared.transaction.Version.{Version}
use Rattle.policy.specs.Policies.{Policies}
use Rattle.rules.specs.declared.flag.Flag.{Flag}
use Rattle.rules.specs.declared.early_flag.EarlyFlag.TheVariants.{BadPayload}
use Rattle.rules.specs.declared.flag.Flag.TheVariants.{EndorsementPolicyFailure}
use Rattle.rules.specs.declared.read_verdict.ReadVerdict.{ReadVerdict}
use Rattle.rules.specs.declared.read_verdict.ReadVerdict.TheVariants.{Good}
use Rattle.rules.specs.declared.row.Row.{Row}
use Rattle.rules.specs.declared.history.HistoryEntry.{HistoryEntry}
use Rattle.rules.specs.Flags.{flag_of}
use Rattle.rules.specs.State.{StateKey, State, ChangeOf, with_changes}
use Rattle.rules.specs.Effect.{changes_of, policy_keys, written_keys}
use Rattle.rules.specs.History.{entries_of}
use Rattle.rules.specs.Endorsement.{is_endorsed}
use Rattle.rules.specs.Reads.{read_verdict}
use Rattle.rules.specs.Job.{read_flag}
use Rattle.first_version.specs.Candidate.{Candidate, flagged, opened}

pub record Job : Type 0 where
  -- the block's number
  pub number : ℕ
  -- the state before it
  pub state : State
  pub definitions : Policies
  pub candidates : List Candidate

abbrev pub candidate_at : Job → ℕ → Candidate
candidate_at j i = slice_index_or j.candidates i (flagged BadPayload)

-- the version that its writes have
abbrev pub version_of : Job → ℕ → Version
version_of j i = record { block = j.number; tx = i }

-- ---- one candidate of any kind; a flagged one writes and reads nothing

-- the keys whose policy it writes
abbrev pub touched_by : Candidate → List StateKey
touched_by (flagged flag) = []
touched_by (opened tx signers) = policy_keys tx

-- the keys that it writes, by value, delete or policy
abbrev pub operated_by : Candidate → List StateKey
operated_by (flagged flag) = []
operated_by (opened tx signers) = written_keys tx

abbrev pub changes_by : Version → Candidate → State → List (ChangeOf Row)
changes_by v (flagged flag) s = []
changes_by v (opened tx signers) s = changes_of v tx s

abbrev pub entries_by : Version → Candidate → List (StateKey × HistoryEntry)
entries_by v (flagged flag) = []
entries_by v (opened tx signers) = entries_of v tx

abbrev pub state_by : Version → Candidate → State → State
state_by v c s = with_changes s (changes_by v c s)

abbrev pub endorsement_by : Policies → State → List StateKey → Candidate → Bool
endorsement_by definitions before touched (flagged flag) = false
endorsement_by definitions before touched (opened tx signers) = is_endorsed definitions before touched tx signers

abbrev pub reads_by : State → Candidate → ReadVerdict
reads_by s (flagged flag) = Good
reads_by s (opened tx signers) = read_verdict s tx

abbrev pub open_flag : Bool → ReadVerdict → Flag
open_flag false verdict = EndorsementPolicyFailure
open_flag true verdict = read_flag verdict

abbrev pub flag_by : Candidate → Bool → ReadVerdict → Flag
flag_by (flagged flag) endorsed verdict = flag_of flag
flag_by (opened tx signers) endorsed verdict = open_flag endorsed verdict

-- ---- candidate i

-- whether it passes the endorsement rule if these keys were touched
abbrev pub endorsement : Job → ℕ → List StateKey → Bool
endorsement j i touched = endorsement_by j.definitions j.state touched (candidate_at j i)

-- what its reads find in a state
abbrev pub reads : Job → ℕ → State → ReadVerdict
reads j i s = reads_by s (candidate_at j i)

-- the state after it is applied
abbrev pub state_after : Job → ℕ → State → State
state_after j i s = state_by (version_of j i) (candidate_at j i) s
