-- Why the signers of an open candidate may not write what it writes: the first written key that they may not write, or,
-- where they may write each, the policy of the chaincode that is named.
use Rattle.std.specs.Prelude.{◌≡◌, ℕ, List, Bool, not, ◌&&◌, find, Option, Some, None}
use Rattle.std.specs.FinMap.{get}
use Rattle.transaction.specs.declared.identity.Identity.{Identity}
use Rattle.transaction.specs.declared.transaction.Tx.{Tx}
use Rattle.policy.specs.Tree.{Tree}
use Rattle.rules.specs.State.{StateKey, policy_in, is_among}
use Rattle.rules.specs.Effect.{written_keys}
use Rattle.rules.specs.Endorsement.{may_write}
use Rattle.rules.specs.Job.{Job, candidate_at, touched_by}
use Rattle.rules.specs.Fold.{running, endorsed}
use Rattle.reasons.specs.declared.endorsement_fault.EndorsementFault.{EndorsementFault}
use Rattle.reasons.specs.declared.endorsement_fault.EndorsementFault.TheVariants.{Touched, Unsatisfied, ChaincodeUnsatisfied}
use Rattle.reasons.specs.declared.policy_owner.PolicyOwner.{PolicyOwner}
use Rattle.reasons.specs.declared.policy_owner.PolicyOwner.TheVariants.{OfKey, OfChaincode}
use Rattle.reasons.specs.First.{first_below}
use Rattle.reasons.specs.Shortfall.{shortfall_of}

-- the first of its written keys that it may not write, as candidate i
abbrev pub first_barred : Job → ℕ → Tx → List Identity → Option StateKey
first_barred j i tx signers = find (λ k. not (may_write j.definitions j.state (running j i).touched signers k)) (written_keys tx)

-- candidate h passes the endorsement rule and writes the key's policy
abbrev pub touches : Job → StateKey → ℕ → Bool
touches j k h = endorsed j h && is_among k (touched_by (candidate_at j h))

-- the policy that governs a key in the state before the block, and whose it is
abbrev pub Governs : Job → StateKey → PolicyOwner → Tree → Type 0
Governs j k OfKey policy = policy_in j.state k ≡ Some policy
Governs j k OfChaincode policy = (policy_in j.state k ≡ None) × (get j.definitions k.0 ≡ Some policy)

-- A key that was touched goes by the first that touched it, and any other by the policy that governs it.
abbrev pub IsEndorsementFault : Job → ℕ → Tx → List Identity → EndorsementFault → Type 0
IsEndorsementFault j i tx signers (Touched namespace key place) =
    (first_barred j i tx signers ≡ Some (namespace, key)) × (first_below (touches j (namespace, key)) i ≡ Some place)
IsEndorsementFault j i tx signers (Unsatisfied namespace key owner x) =
    (first_barred j i tx signers ≡ Some (namespace, key)) × (first_below (touches j (namespace, key)) i ≡ None)
    × Governs j (namespace, key) owner x.policy × (x ≡ shortfall_of tx.endorsements signers x.policy)
IsEndorsementFault j i tx signers (ChaincodeUnsatisfied chaincode x) =
    (first_barred j i tx signers ≡ None) × (chaincode ≡ tx.chaincode)
    × (get j.definitions tx.chaincode ≡ Some x.policy) × (x ≡ shortfall_of tx.endorsements signers x.policy)
