-- The candidates of a block that write the policy of one key, the newest first.
use Rattle.std.specs.Prelude.{ℕ, zero, suc, List, [], ◌∷◌, if◌then◌else◌}
use Rattle.rules.specs.State.{StateKey, is_among}
use Rattle.rules.specs.Candidate.{Candidate}
use Rattle.rules.specs.Job.{touched_by}
use Rattle.key_chains.specs.Operations.{candidate_in}

-- those before i
unfoldable pub policy_writers : List Candidate → StateKey → ℕ → List ℕ
policy_writers cs k zero = []
policy_writers cs k (suc n) = if is_among k (touched_by (candidate_in cs n)) then n ∷ policy_writers cs k n else policy_writers cs k n
