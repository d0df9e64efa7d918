-- Verdicts where each earlier candidate is called yes or no.
use Rattle.std.specs.Prelude.{ℕ, zero, suc, List, [], ◌++◌, Bool, if◌then◌else◌, Option}
use Rattle.transaction.specs.declared.transaction.Version.{Version}
use Rattle.rules.specs.declared.read_verdict.ReadVerdict.{ReadVerdict}
use Rattle.rules.specs.State.{StateKey, State, version_in}
use Rattle.rules.specs.Job.{Job, candidate_at, touched_by, endorsement, reads, state_after}

abbrev pub Assignment : Type 0
Assignment = ℕ → Bool

-- the keys whose policy is written by the candidates before i that are called yes: those that pass the endorsement rule
unfoldable pub touched_under : Job → Assignment → ℕ → List StateKey
touched_under j called zero = []
touched_under j called (suc i) = if called i then touched_under j called i ++ touched_by (candidate_at j i) else touched_under j called i

-- the state once the candidates before i that are called yes, the valid ones, are applied in order
unfoldable pub state_under : Job → Assignment → ℕ → State
state_under j called zero = j.state
state_under j called (suc i) = if called i then state_after j i (state_under j called i) else state_under j called i

-- the verdicts of candidate i
abbrev pub endorsement_under : Job → Assignment → ℕ → Bool
endorsement_under j called i = endorsement j i (touched_under j called i)

abbrev pub reads_under : Job → Assignment → ℕ → ReadVerdict
reads_under j called i = reads j i (state_under j called i)

-- the version of a key there, or none where it is absent
abbrev pub version_under : Job → StateKey → Assignment → ℕ → Option Version
version_under j k called i = version_in (state_under j called i) k
