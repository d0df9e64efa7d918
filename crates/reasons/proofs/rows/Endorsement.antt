-- Signers that may not write.
use Rattle.std.proofs.Common.{ℕ, List, [], ◌∷◌, false, Some, refl}
use Rattle.std.specs.Prelude.{codes}
use Rattle.policy.specs.declared.tree.PolicyRole.TheVariants.{Peer}
use Rattle.policy.specs.declared.tree.Principal.{Principal}
use Rattle.rules.specs.State.{with_changes}
use Rattle.rules.specs.Job.{Job}
use Rattle.rules.specs.Fold.{running}
use Rattle.reasons.specs.declared.endorsement_fault.EndorsementFault.TheVariants.{Touched, Unsatisfied, ChaincodeUnsatisfied}
use Rattle.reasons.specs.declared.policy_owner.PolicyOwner.TheVariants.{OfKey, OfChaincode}
use Rattle.reasons.specs.First.{first_below}
use Rattle.reasons.specs.Endorsement.{IsEndorsementFault}
use Rattle.rules.proofs.rows.Shared.{p0, either_peer, both_peers, chaincode, a, k, put, policy_put, one, unendorsed, guarded_state, block_on, block_over}
use Rattle.reasons.proofs.rows.Shared.{over, writing, writing_policy}
use Rattle.reasons.proofs.rows.Looks.{looks}

-- the key's policy is written by the second one; the first isn't endorsed, and the third comes too late
abbrev touching : Job
touching = block_over (k ∷ []) (unendorsed (writing_policy (policy_put k)) ∷ one (writing_policy (policy_put k)) ∷ one (writing_policy (policy_put k)) ∷ one (writing (put a ∷ put k ∷ [])) ∷ [])

pub key_that_was_touched : IsEndorsementFault touching 3 (writing (put a ∷ put k ∷ [])) (p0 ∷ []) (Touched chaincode k 1)
unfolding running with_changes first_below
key_that_was_touched = (simp looks refl, simp looks refl)

abbrev peer_in : List ℕ → Principal
peer_in org = record { org = org; role = Peer }

-- a and k, of which k has a policy of its own
abbrev guarded : Job
guarded = block_on 1 guarded_state (one (writing (put a ∷ put k ∷ [])) ∷ unendorsed (writing (put a ∷ put k ∷ [])) ∷ [])

pub policy_of_the_key : IsEndorsementFault guarded 0 (writing (put a ∷ put k ∷ [])) (p0 ∷ []) (Unsatisfied chaincode k OfKey (record { policy = both_peers; signers = p0 ∷ []; refused = []; missing = Some (peer_in (codes "Org2")); another_order = false }))
unfolding running with_changes first_below
policy_of_the_key = (simp looks refl, refl, simp looks refl, refl)

pub policy_of_the_chaincode : IsEndorsementFault guarded 1 (writing (put a ∷ put k ∷ [])) [] (Unsatisfied chaincode a OfChaincode (record { policy = either_peer; signers = []; refused = p0 ∷ []; missing = Some (peer_in (codes "Org1")); another_order = false }))
unfolding running with_changes first_below
policy_of_the_chaincode = (simp looks refl, simp looks refl, (simp looks refl, simp looks refl), refl)

-- nothing is written
pub policy_of_the_named_chaincode : IsEndorsementFault (block_over [] (unendorsed (over []) ∷ [])) 0 (over []) [] (ChaincodeUnsatisfied chaincode (record { policy = either_peer; signers = []; refused = p0 ∷ []; missing = Some (peer_in (codes "Org1")); another_order = false }))
unfolding running with_changes first_below
policy_of_the_named_chaincode = (refl, refl, simp looks refl, refl)
