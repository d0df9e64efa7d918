-- What bytes mean as a policy, as functions: the grammar's, as the law `policy_reading` says.
use Rattle.std.specs.Prelude.{ℕ, List, Option, Result}
use Rattle.std.specs.Result.{result_ok}
use Rattle.policy.specs.Tree.{Tree}
use Rattle.policy.specs.Fault.{Fault}
use Rattle.policy.specs.Reading.{policy_at}

-- the tree that the bytes spell, or the kind of their first fault
abbrev pub policy_or_fault : List ℕ → Result Tree Fault
policy_or_fault bytes = policy_at bytes

-- the tree that the bytes spell, or none where they spell none
abbrev pub policy_of : List ℕ → Option Tree
policy_of bytes = result_ok (policy_or_fault bytes)
