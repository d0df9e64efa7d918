-- The candidates of one block over the state before it.
use Rattle.std.specs.Prelude.{ℕ, List, [], Bool, true, false, Option, option_map, option_to_list, slice_index_or}
use Rattle.transaction.specs.declared.transaction.Version.{Version}
use Rattle.policy.specs.Tree.{Tree}
use Rattle.policy.specs.Meaning.{policy_of}
use Rattle.policy.specs.Policies.{Policies}
use Rattle.rules.specs.declared.flag.Flag.{Flag}
use Rattle.rules.specs.declared.early_flag.EarlyFlag.TheVariants.{BadPayload}
use Rattle.rules.specs.declared.flag.Flag.TheVariants.{Valid, InvalidConfigTransaction, EndorsementPolicyFailure, MvccReadConflict, PhantomReadConflict}
use Rattle.rules.specs.declared.read_verdict.ReadVerdict.{ReadVerdict}
use Rattle.rules.specs.declared.read_verdict.ReadVerdict.TheVariants.{Good, Stale, Phantom}
use Rattle.rules.specs.declared.row.Row.{Row}
use Rattle.rules.specs.declared.history.HistoryEntry.{HistoryEntry}
use Rattle.rules.specs.Flags.{flag_of}
use Rattle.rules.specs.State.{StateKey, State, ChangeOf, with_changes}
use Rattle.rules.specs.Effect.{changes_of, policy_keys, written_keys}
use Rattle.rules.specs.History.{entries_of}
use Rattle.rules.specs.Endorsement.{is_endorsed, meets}
use Rattle.rules.specs.Reads.{read_verdict}
use Rattle.rules.specs.Candidate.{Candidate, flagged, opened, updates}

pub record Job : Type 0 where
  -- the block's number
  pub number : ℕ
  -- the state before it
  pub state : State
  pub definitions : Policies
  -- the policy by which definitions are updated, where there is one
  pub admin : Option Tree
  pub candidates : List Candidate

abbrev pub candidate_at : Job → ℕ → Candidate
candidate_at j i = slice_index_or j.candidates i (flagged BadPayload)

-- the version that its writes have
abbrev pub version_of : Job → ℕ → Version
version_of j i = record { block = j.number; tx = i }

-- ---- one candidate of whatever kind; a flagged one and an update write and read nothing

-- the keys whose policy it writes
abbrev pub touched_by : Candidate → List StateKey
touched_by (flagged flag) = []
touched_by (opened tx signers) = policy_keys tx
touched_by (updates u signers) = []

-- the keys that it writes, by value, delete or policy
abbrev pub operated_by : Candidate → List StateKey
operated_by (flagged flag) = []
operated_by (opened tx signers) = written_keys tx
operated_by (updates u signers) = []

abbrev pub changes_by : Version → Candidate → State → List (ChangeOf Row)
changes_by v (flagged flag) s = []
changes_by v (opened tx signers) s = changes_of v tx s
changes_by v (updates u signers) s = []

abbrev pub entries_by : Version → Candidate → List (StateKey × HistoryEntry)
entries_by v (flagged flag) = []
entries_by v (opened tx signers) = entries_of v tx
entries_by v (updates u signers) = []

-- the chaincode that it gives a policy, with that policy
abbrev pub definitions_by : Candidate → List (List ℕ × Tree)
definitions_by (flagged flag) = []
definitions_by (opened tx signers) = []
definitions_by (updates u signers) = option_to_list (option_map (λ policy. (u.namespace, policy)) (policy_of u.policy))

abbrev pub state_by : Version → Candidate → State → State
state_by v c s = with_changes s (changes_by v c s)

-- of an update the admin policy is asked
abbrev pub endorsement_by : Option Tree → Policies → State → List StateKey → Candidate → Bool
endorsement_by admin definitions before touched (flagged flag) = false
endorsement_by admin definitions before touched (opened tx signers) = is_endorsed definitions before touched tx signers
endorsement_by admin definitions before touched (updates u signers) = meets signers admin

abbrev pub reads_by : State → Candidate → ReadVerdict
reads_by s (flagged flag) = Good
reads_by s (opened tx signers) = read_verdict s tx
reads_by s (updates u signers) = Good

abbrev pub read_flag : ReadVerdict → Flag
read_flag Good = Valid
read_flag Stale = MvccReadConflict
read_flag Phantom = PhantomReadConflict

-- of one that has this flag where it doesn't pass the endorsement rule
abbrev pub open_flag : Flag → Bool → ReadVerdict → Flag
open_flag refused false verdict = refused
open_flag refused true verdict = read_flag verdict

abbrev pub flag_by : Candidate → Bool → ReadVerdict → Flag
flag_by (flagged flag) endorsed verdict = flag_of flag
flag_by (opened tx signers) endorsed verdict = open_flag EndorsementPolicyFailure endorsed verdict
flag_by (updates u signers) endorsed verdict = open_flag InvalidConfigTransaction endorsed verdict

-- ---- candidate i

-- whether it passes the endorsement rule where these keys were touched
abbrev pub endorsement : Job → ℕ → List StateKey → Bool
endorsement j i touched = endorsement_by j.admin j.definitions j.state touched (candidate_at j i)

-- what its reads find in a state
abbrev pub reads : Job → ℕ → State → ReadVerdict
reads j i s = reads_by s (candidate_at j i)

-- the state once it is applied
abbrev pub state_after : Job → ℕ → State → State
state_after j i s = state_by (version_of j i) (candidate_at j i) s
