-- Worked rows: what one item leaves for the next.
use Rattle.std.proofs.Common.{◌≡◌, false, List, [], ◌∷◌, Option, Some, None, refl}
use Rattle.std.specs.Prelude.{codes}
use Rattle.std.specs.Str.{bytes_eq}
use Rattle.std.specs.FinMap.{get}
use Rattle.transaction.specs.declared.item.Item.{Item}
use Rattle.rules.specs.declared.flag.Flag.TheVariants.{Valid, BadPayload, DuplicateTxId, EndorsementPolicyFailure, MvccReadConflict, TargetChainNotFound}
use Rattle.rules.specs.History.{with_entries, entries_at}
use Rattle.rules.specs.State.{with_changes, version_in}
use Rattle.rules.proofs.rows.Shared.{chaincode, k, at, read_at, deleted, policy_put, policy_removed, tx, reading, writing, writing_policy, channel, any, an_id, writes_k, entry, guarded_state}
use Rattle.theorem.specs.Serial.{SoFar, all_taken, after_items}
use Rattle.theorem.proofs.rows.Looks.{uses, entry_looks}
use Rattle.theorem.proofs.rows.Ledger.{ledger_with, executed, by_nobody, by_one, by_both, second_id, renewed}

-- ---- a valid item

pub one_write : (executed (by_one writes_k ∷ [])).flags ≡ Valid ∷ []
unfolding all_taken with_changes
one_write = simp uses refl

pub one_write_is_versioned : version_in (executed (by_one writes_k ∷ [])).state (chaincode, k) ≡ Some (at 1 0)
unfolding all_taken with_changes
one_write_is_versioned = simp uses refl

pub one_write_is_in_the_history : entries_at (executed (by_one writes_k ∷ [])).history (chaincode, k) ≡ entry (at 1 0) (Some (codes "v")) ∷ []
unfolding all_taken with_changes with_entries
one_write_is_in_the_history = simp (entry_looks, uses) refl

-- ---- an invalid one

pub invalid_write_leaves_the_version : version_in (executed (by_nobody writes_k ∷ [])).state (chaincode, k) ≡ Some (at 0 0)
unfolding all_taken with_changes
invalid_write_leaves_the_version = simp uses refl

pub invalid_write_is_in_no_history : entries_at (executed (by_nobody writes_k ∷ [])).history (chaincode, k) ≡ []
unfolding all_taken with_changes with_entries
invalid_write_is_in_no_history = simp (entry_looks, uses) refl

-- the first one isn't endorsed, and uses its id
abbrev used_twice : List (Option Item)
used_twice = by_nobody writes_k ∷ by_one writes_k ∷ []

pub invalid_one_uses_its_id : (executed used_twice).flags ≡ EndorsementPolicyFailure ∷ DuplicateTxId ∷ []
unfolding all_taken with_changes
invalid_one_uses_its_id = simp uses refl

pub first_use_stays : get (executed used_twice).first_uses an_id ≡ Some (record { block = 1; place = 0; flag = EndorsementPolicyFailure })
unfolding all_taken with_changes
first_use_stays = simp uses refl

pub no_item_uses_no_id : (executed (None ∷ by_one writes_k ∷ [])).flags ≡ BadPayload ∷ Valid ∷ []
unfolding all_taken with_changes
no_item_uses_no_id = simp uses refl

pub other_channel_uses_no_id : (executed (by_one (record writes_k { channel = codes "other" }) ∷ by_one writes_k ∷ [])).flags ≡ TargetChainNotFound ∷ Valid ∷ []
unfolding all_taken with_changes
other_channel_uses_no_id = simp uses refl

-- ---- two transactions, given that their ids differ

module _ (apart : bytes_eq second_id an_id ≡ false) where
  pub reads_what_the_block_wrote : (executed (by_one writes_k ∷ by_one (renewed (reading (read_at k (at 1 0) ∷ []))) ∷ [])).flags ≡ Valid ∷ Valid ∷ []
  unfolding all_taken with_changes
  reads_what_the_block_wrote = simp (apart, uses) refl

  pub reads_what_was_before_the_block : (executed (by_one writes_k ∷ by_one (renewed (reading (read_at k (at 0 0) ∷ []))) ∷ [])).flags ≡ Valid ∷ MvccReadConflict ∷ []
  unfolding all_taken with_changes
  reads_what_was_before_the_block = simp (apart, uses) refl

  pub reads_after_an_invalid_one : (executed (by_nobody writes_k ∷ by_one (renewed (reading (read_at k (at 0 0) ∷ []))) ∷ [])).flags ≡ EndorsementPolicyFailure ∷ Valid ∷ []
  unfolding all_taken with_changes
  reads_after_an_invalid_one = simp (apart, uses) refl

  -- ---- keys whose policies are written

  pub written_policy_closes_its_key : (executed (by_one (writing_policy (policy_put k)) ∷ by_both (renewed writes_k) ∷ [])).flags ≡ Valid ∷ EndorsementPolicyFailure ∷ []
  unfolding all_taken with_changes
  written_policy_closes_its_key = simp (apart, uses) refl

  pub removed_policy_closes_its_key : (executed (by_one (writing_policy (policy_removed k)) ∷ by_both (renewed writes_k) ∷ [])).flags ≡ Valid ∷ EndorsementPolicyFailure ∷ []
  unfolding all_taken with_changes
  removed_policy_closes_its_key = simp (apart, uses) refl

  -- one whose reads fail closes it too, one that isn't endorsed doesn't
  pub stale_policy_write_closes_its_key : (executed (by_one (tx (read_at k (at 7 7) ∷ []) [] [] (policy_put k ∷ [])) ∷ by_one (renewed writes_k) ∷ [])).flags ≡ MvccReadConflict ∷ EndorsementPolicyFailure ∷ []
  unfolding all_taken with_changes
  stale_policy_write_closes_its_key = simp (apart, uses) refl

  pub unendorsed_policy_write_closes_nothing : (executed (by_nobody (writing_policy (policy_put k)) ∷ by_one (renewed writes_k) ∷ [])).flags ≡ EndorsementPolicyFailure ∷ Valid ∷ []
  unfolding all_taken with_changes
  unendorsed_policy_write_closes_nothing = simp (apart, uses) refl

  pub value_write_closes_nothing : (executed (by_one writes_k ∷ by_one (renewed writes_k) ∷ [])).flags ≡ Valid ∷ Valid ∷ []
  unfolding all_taken with_changes
  value_write_closes_nothing = simp (apart, uses) refl

  -- ---- policies before the block: k needs a peer of each organization, and is deleted by both

  abbrev guarded : List (Option Item) → SoFar
  guarded items = after_items channel any (ledger_with guarded_state) items

  pub deleted_key_is_still_guarded : (guarded (by_both (writing (deleted k ∷ [])) ∷ by_one (renewed writes_k) ∷ [])).flags ≡ Valid ∷ EndorsementPolicyFailure ∷ []
  unfolding all_taken with_changes
  deleted_key_is_still_guarded = simp (apart, uses) refl

  pub deleted_key_by_both : (guarded (by_both (writing (deleted k ∷ [])) ∷ by_both (renewed writes_k) ∷ [])).flags ≡ Valid ∷ Valid ∷ []
  unfolding all_taken with_changes
  deleted_key_by_both = simp (apart, uses) refl
