-- Policies of keys.
use Rattle.std.proofs.Common.{◌≡◌, [], ◌∷◌, Some, None, refl}
use Rattle.std.specs.Prelude.{codes, option_map}
use Rattle.std.specs.FinMap.{get, from_entries}
use Rattle.rules.specs.declared.flag.Flag.TheVariants.{Valid, EndorsementPolicyFailure, MvccReadConflict, BadRwset}
use Rattle.transaction.specs.declared.transaction.Tx.{Tx}
use Rattle.rules.specs.State.{key_cmp, with_changes, version_in, policy_in}
use Rattle.rules.specs.Job.{Job}
use Rattle.rules.specs.Fold.{running, flags, final_state}
use Rattle.rules.proofs.rows.Shared.{both_peers, peer_of, definitions_with, chaincode, k, at, absent, put, deleted, policy_put, policy_removed, set_of, over, tx, writing, writing_policy, one, both, unendorsed, judged, guarded_state, block_on, block_over, writes_k}
use Rattle.rules.proofs.rows.Looks.{looks}

abbrev deletes_k : Tx
deletes_k = writing (deleted k ∷ [])

-- ---- a key with its own policy

abbrev guarded : Job
guarded = block_on 1 guarded_state (one writes_k ∷ both writes_k ∷ [])

pub key_policy_governs : flags guarded ≡ EndorsementPolicyFailure ∷ Valid ∷ []
unfolding running with_changes
key_policy_governs = simp looks refl

pub key_policy_is_kept_by_a_write : policy_in (final_state guarded) (chaincode, k) ≡ Some both_peers
unfolding running with_changes
key_policy_is_kept_by_a_write = simp looks refl

pub key_policy_governs_deletes_and_policy_writes : flags (block_on 1 guarded_state (one deletes_k ∷ one (writing_policy (policy_removed k)) ∷ both (writing_policy (policy_removed k)) ∷ [])) ≡ EndorsementPolicyFailure ∷ EndorsementPolicyFailure ∷ Valid ∷ []
unfolding running with_changes
key_policy_governs_deletes_and_policy_writes = simp looks refl

pub key_policy_governs_its_key_alone : flags (block_on 1 guarded_state (one (writing (put (codes "j") ∷ [])) ∷ [])) ≡ Valid ∷ []
unfolding running with_changes
key_policy_governs_its_key_alone = simp looks refl

-- ---- a policy that is written touches its key for the rest of the block

abbrev touched_by_an_invalid_one : Job
touched_by_an_invalid_one = block_over (k ∷ codes "x" ∷ []) (one (tx (absent (codes "x") ∷ []) [] [] (policy_put k ∷ [])) ∷ one writes_k ∷ [])

-- it passed the endorsement rule, and failed on a read
pub invalid_policy_write_touches : flags touched_by_an_invalid_one ≡ MvccReadConflict ∷ EndorsementPolicyFailure ∷ []
unfolding running with_changes
invalid_policy_write_touches = simp looks refl

pub invalid_policy_write_has_no_effect : policy_in (final_state touched_by_an_invalid_one) (chaincode, k) ≡ None
unfolding running with_changes
invalid_policy_write_has_no_effect = simp looks refl

pub unendorsed_policy_write_does_not_touch : flags (block_over (k ∷ []) (unendorsed (writing_policy (policy_put k)) ∷ one writes_k ∷ [])) ≡ EndorsementPolicyFailure ∷ Valid ∷ []
unfolding running with_changes
unendorsed_policy_write_does_not_touch = simp looks refl

abbrev sets_the_policy : Job
sets_the_policy = block_over (k ∷ []) (one (writing_policy (policy_put k)) ∷ both writes_k ∷ [])

-- signers that satisfy the policy before and the one that is set
pub new_policy_is_not_asked_in_its_block : flags sets_the_policy ≡ Valid ∷ EndorsementPolicyFailure ∷ []
unfolding running with_changes
new_policy_is_not_asked_in_its_block = simp looks refl

pub new_policy_governs_the_next_block : flags (block_on 2 (final_state sets_the_policy) (one writes_k ∷ both writes_k ∷ [])) ≡ EndorsementPolicyFailure ∷ Valid ∷ []
unfolding running with_changes
new_policy_governs_the_next_block = simp looks refl

pub removing_no_policy_touches : flags (block_over (k ∷ []) (one (writing_policy (policy_removed k)) ∷ one writes_k ∷ [])) ≡ Valid ∷ EndorsementPolicyFailure ∷ []
unfolding running with_changes
removing_no_policy_touches = simp looks refl

abbrev removes_no_policy : Job
removes_no_policy = block_over (k ∷ []) (one (writing_policy (policy_removed k)) ∷ [])

pub removing_no_policy_sets_the_version : version_in (final_state removes_no_policy) (chaincode, k) ≡ Some (at 1 0)
unfolding running with_changes
removing_no_policy_sets_the_version = simp looks refl

pub removing_no_policy_keeps_the_value : option_map (λ row. row.value) (get (final_state removes_no_policy) (chaincode, k)) ≡ Some (codes "v")
unfolding running with_changes
removing_no_policy_keeps_the_value = simp looks refl

abbrev policy_of_an_absent_key : Job
policy_of_an_absent_key = block_over [] (one (writing_policy (policy_put k)) ∷ one writes_k ∷ [])

pub policy_of_an_absent_key_touches : flags policy_of_an_absent_key ≡ Valid ∷ EndorsementPolicyFailure ∷ []
unfolding running with_changes
policy_of_an_absent_key_touches = simp looks refl

pub policy_of_an_absent_key_has_no_effect : version_in (final_state policy_of_an_absent_key) (chaincode, k) ≡ None
unfolding running with_changes
policy_of_an_absent_key_has_no_effect = simp looks refl

-- it repeats a namespace
pub policy_write_out_of_form_does_not_touch : flags (block_over (k ∷ []) (judged (over (set_of chaincode [] [] [] (policy_put k ∷ []) ∷ set_of chaincode [] [] [] [] ∷ [])) ∷ one writes_k ∷ [])) ≡ BadRwset ∷ Valid ∷ []
unfolding running with_changes
policy_write_out_of_form_does_not_touch = simp looks refl

pub delete_does_not_touch : flags (block_over (k ∷ []) (one deletes_k ∷ one writes_k ∷ [])) ≡ Valid ∷ Valid ∷ []
unfolding running with_changes
delete_does_not_touch = simp looks refl

pub delete_with_a_policy_write_touches : flags (block_over (k ∷ []) (one (tx [] [] (deleted k ∷ []) (policy_put k ∷ [])) ∷ one writes_k ∷ [])) ≡ Valid ∷ EndorsementPolicyFailure ∷ []
unfolding running with_changes
delete_with_a_policy_write_touches = simp looks refl

pub policies_of_other_keys_do_not_touch : flags (block_over (k ∷ []) (one (writing_policy (policy_put (codes "j"))) ∷ one writes_k ∷ [])) ≡ Valid ∷ Valid ∷ []
unfolding running with_changes
policies_of_other_keys_do_not_touch = simp looks refl

-- ---- a key with its own policy that is deleted

abbrev deleted_and_written : Job
deleted_and_written = block_on 1 guarded_state (both deletes_k ∷ one writes_k ∷ both writes_k ∷ [])

-- the policy from before the block governs to its end
pub deleted_key_keeps_its_guard_in_the_block : flags deleted_and_written ≡ Valid ∷ EndorsementPolicyFailure ∷ Valid ∷ []
unfolding running with_changes
deleted_key_keeps_its_guard_in_the_block = simp looks refl

pub deleted_key_has_no_policy_afterwards : policy_in (final_state deleted_and_written) (chaincode, k) ≡ None
unfolding running with_changes
deleted_key_has_no_policy_afterwards = simp looks refl

pub deleted_key_is_written_again : version_in (final_state deleted_and_written) (chaincode, k) ≡ Some (at 1 2)
unfolding running with_changes
deleted_key_is_written_again = simp looks refl

pub deleted_key_has_no_guard_in_the_next_block : flags (block_on 2 (final_state (block_on 1 guarded_state (both deletes_k ∷ []))) (one writes_k ∷ [])) ≡ Valid ∷ []
unfolding running with_changes
deleted_key_has_no_guard_in_the_next_block = simp looks refl

-- ---- a value and a policy at once

abbrev both_at_once : Job
both_at_once = block_over [] (one (tx [] [] (put k ∷ []) (policy_put k ∷ [])) ∷ [])

pub policy_beside_a_value : policy_in (final_state both_at_once) (chaincode, k) ≡ Some both_peers
unfolding running with_changes
policy_beside_a_value = simp looks refl

pub removal_beside_a_value : policy_in (final_state (block_on 1 guarded_state (both (tx [] [] (put k ∷ []) (policy_removed k ∷ [])) ∷ []))) (chaincode, k) ≡ None
unfolding running with_changes
removal_beside_a_value = simp looks refl

abbrev removes_the_policy : Job
removes_the_policy = block_on 1 guarded_state (both (writing_policy (policy_removed k)) ∷ [])

pub removed_policy_is_gone : policy_in (final_state removes_the_policy) (chaincode, k) ≡ None
unfolding running with_changes
removed_policy_is_gone = simp looks refl

pub removed_policy_governs_no_more : flags (block_on 2 (final_state removes_the_policy) (one writes_k ∷ [])) ≡ Valid ∷ []
unfolding running with_changes
removed_policy_governs_no_more = simp looks refl

-- ---- a policy write alone is a write

-- k wants a peer of the first organization, and its chaincode wants both
abbrev open_key : Job
open_key = record {
  number = 1;
  state = from_entries {R = key_cmp} (((chaincode, k), record { value = codes "v"; version = at 0 0; policy = Some (peer_of (codes "Org1")) }) ∷ []);
  definitions = definitions_with both_peers;
  admin = None;
  candidates = one (writing_policy (policy_removed k)) ∷ one (over []) ∷ [];
}

-- so the chaincode isn't asked, as it is where nothing is written
pub policy_write_is_a_write_of_the_named_chaincode : flags open_key ≡ Valid ∷ EndorsementPolicyFailure ∷ []
unfolding running with_changes
policy_write_is_a_write_of_the_named_chaincode = simp looks refl
