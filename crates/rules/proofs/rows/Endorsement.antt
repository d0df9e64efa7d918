-- Policies of chaincodes.
use Rattle.std.proofs.Common.{None, ◌≡◌, ℕ, List, [], ◌∷◌, refl}
use Rattle.std.specs.Prelude.{codes}
use Rattle.rules.specs.declared.flag.Flag.TheVariants.{Valid, EndorsementPolicyFailure, InvalidChaincode}
use Rattle.policy.specs.Tree.{Tree, principal}
use Rattle.policy.specs.declared.tree.PolicyRole.TheVariants as wanted
use Rattle.rules.specs.State.{with_changes}
use Rattle.rules.specs.Candidate.{Candidate}
use Rattle.rules.specs.Job.{Job}
use Rattle.rules.specs.Fold.{running, flags}
use Rattle.std.specs.FinMap.{from_entries}
use Rattle.values.specs.Order.{bytes_cmp}
use Rattle.transaction.specs.declared.transaction.NsSet.{NsSet}
use Rattle.rules.proofs.rows.Shared.{either_peer, both_peers, both, chaincode, p0, p1, a0, peer_of, both_of, k, absent, put, policy_removed, set_of, over, one, unendorsed, signed_by, judged, definitions_with, state_with, block_over, zz, dd, writes_k}
use Rattle.rules.proofs.rows.Looks.{looks}

-- block 1 over no keys, where the policy of cc is this one
abbrev under_policy : Tree → List Candidate → Job
under_policy policy candidates = record { number = 1; state = state_with []; definitions = definitions_with policy; admin = None; candidates = candidates }

pub endorsing_twice_counts_once : flags (under_policy (both_of (peer_of (codes "Org1")) (peer_of (codes "Org1"))) (signed_by (p0 ∷ p0 ∷ []) writes_k ∷ signed_by (p0 ∷ p1 ∷ []) writes_k ∷ [])) ≡ EndorsementPolicyFailure ∷ Valid ∷ []
unfolding running with_changes
endorsing_twice_counts_once = simp looks refl

-- the member takes the admin where that one signs first
pub member_takes_the_admin : flags (under_policy (both_of (principal (codes "Org1") wanted.Member) (principal (codes "Org1") wanted.Admin)) (signed_by (a0 ∷ p0 ∷ []) writes_k ∷ signed_by (p0 ∷ a0 ∷ []) writes_k ∷ [])) ≡ EndorsementPolicyFailure ∷ Valid ∷ []
unfolding running with_changes
member_takes_the_admin = simp looks refl

-- ---- namespaces and the named chaincode

-- and not written
pub undefined_namespace_may_be_read : flags (block_over [] (judged (over (set_of zz (absent k ∷ []) [] [] [] ∷ [])) ∷ judged (over (set_of zz (absent k ∷ []) [] (put k ∷ []) [] ∷ [])) ∷ judged (over (set_of zz [] [] [] (policy_removed k ∷ []) ∷ [])) ∷ [])) ≡ Valid ∷ InvalidChaincode ∷ InvalidChaincode ∷ []
unfolding running with_changes
undefined_namespace_may_be_read = simp looks refl

pub undefined_chaincode_may_not_be_named : flags (block_over [] (judged (record (over []) { chaincode = zz }) ∷ [])) ≡ InvalidChaincode ∷ []
unfolding running with_changes
undefined_chaincode_may_not_be_named = simp looks refl

-- without any namespace
pub named_chaincode_wants_its_policy : flags (block_over [] (unendorsed (over []) ∷ one (over []) ∷ [])) ≡ EndorsementPolicyFailure ∷ Valid ∷ []
unfolding running with_changes
named_chaincode_wants_its_policy = simp looks refl

-- ---- several namespaces

-- block 1 over no keys, where cc and dd have these policies
abbrev under_policies : Tree → Tree → List Candidate → Job
under_policies first second candidates = record { number = 1; state = state_with []; definitions = from_entries {R = bytes_cmp} ((chaincode, first) ∷ (dd, second) ∷ []); admin = None; candidates = candidates }

abbrev writes_in : List ℕ → NsSet
writes_in name = set_of name [] [] (put k ∷ []) []

-- cc wants either peer, and dd both
pub each_written_namespace_wants_its_policy : flags (under_policies either_peer both_peers (one (over (writes_in chaincode ∷ writes_in dd ∷ [])) ∷ both (over (writes_in chaincode ∷ writes_in dd ∷ [])) ∷ one (over (writes_in chaincode ∷ [])) ∷ [])) ≡ EndorsementPolicyFailure ∷ Valid ∷ Valid ∷ []
unfolding running with_changes
each_written_namespace_wants_its_policy = simp looks refl

-- a policy write alone is a write
pub policy_write_wants_its_namespaces_policy : flags (under_policies either_peer both_peers (one (over (set_of dd [] [] [] (policy_removed k ∷ []) ∷ [])) ∷ both (over (set_of dd [] [] [] (policy_removed k ∷ []) ∷ [])) ∷ [])) ≡ EndorsementPolicyFailure ∷ Valid ∷ []
unfolding running with_changes
policy_write_wants_its_namespaces_policy = simp looks refl

pub namespace_that_is_read_is_not_asked : flags (under_policies either_peer both_peers (one (over (set_of dd (absent k ∷ []) [] [] [] ∷ [])) ∷ [])) ≡ Valid ∷ []
unfolding running with_changes
namespace_that_is_read_is_not_asked = simp looks refl

-- cc wants both peers, and is named by one that writes in dd
pub named_chaincode_without_writes_wants_its_policy : flags (under_policies both_peers either_peer (one (over (writes_in dd ∷ [])) ∷ both (over (writes_in dd ∷ [])) ∷ [])) ≡ EndorsementPolicyFailure ∷ Valid ∷ []
unfolding running with_changes
named_chaincode_without_writes_wants_its_policy = simp looks refl
