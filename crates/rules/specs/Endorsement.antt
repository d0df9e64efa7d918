-- The endorsement rule, with policies of keys (Fabric documentation, 'Endorsement policies'). What is touched, and what the
-- named chaincode is asked without writes, are our own.
use Rattle.std.specs.Prelude.{ℕ, List, Bool, false, not, ◌&&◌, ◌||◌, Option, Some, None}
use Rattle.std.specs.Str.{bytes_eq}
use Rattle.std.specs.List.{list_any, list_all}
use Rattle.std.specs.FinMap.{get}
use Rattle.transaction.specs.declared.identity.Identity.{Identity}
use Rattle.transaction.specs.declared.transaction.Tx.{Tx}
use Rattle.policy.specs.Tree.{Tree}
use Rattle.policy.specs.Policies.{Policies}
use Rattle.policy_eval.specs.Evaluating.{is_satisfied}
use Rattle.rules.specs.State.{StateKey, State, policy_in, is_among}
use Rattle.rules.specs.Effect.{written_keys}

-- there is a policy, and the signers satisfy it
abbrev pub meets : List Identity → Option Tree → Bool
meets signers None = false
meets signers (Some policy) = is_satisfied policy signers

-- the policy that governs a key: its own, else its namespace's
abbrev pub governing : Policies → List ℕ → Option Tree → Option Tree
governing definitions namespace (Some own) = Some own
governing definitions namespace None = get definitions namespace

-- A key may be written if its policy wasn't touched, and the policy that governs it in the state before the block is
-- satisfied. Touched is what an earlier transaction of the block that passed all tests before the reads writes or removes
-- as a policy; a delete alone touches nothing.
abbrev pub may_write : Policies → State → List StateKey → List Identity → StateKey → Bool
may_write definitions before touched signers k =
    not (is_among k touched) && meets signers (governing definitions k.0 (policy_in before k))

abbrev pub has_writes : Tx → List ℕ → Bool
has_writes tx namespace = list_any (λ k. bytes_eq namespace k.0) (written_keys tx)

-- Each written key may be written, and the named chaincode's policy is satisfied where that namespace has no writes.
abbrev pub is_endorsed : Policies → State → List StateKey → Tx → List Identity → Bool
is_endorsed definitions before touched tx signers =
    list_all (may_write definitions before touched signers) (written_keys tx)
    && (has_writes tx tx.chaincode || meets signers (get definitions tx.chaincode))
