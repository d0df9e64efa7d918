-- Transaction ids.
use Rattle.transaction.specs.declared.item.Item.{Item}
use Rattle.transaction.specs.declared.item.Item.TheVariants as item
use Rattle.std.proofs.Common.{◌≡◌, List, [], ◌∷◌, Option, Some, None, refl}
use Rattle.std.specs.Prelude.{codes}
use Rattle.std.specs.FinMap.{empty}
use Rattle.rules.specs.FirstUses.{with_uses}
use Rattle.rules.specs.Commit.{job_of, committed}
use Rattle.rules.specs.World.{World}
use Rattle.rules.specs.Answers.{first_use_answer}
use Rattle.rules.specs.declared.flag.Flag.TheVariants.{Valid, EndorsementPolicyFailure, MvccReadConflict, BadRwset, InvalidChaincode, DuplicateTxId, TargetChainNotFound, BadPayload}
use Rattle.transaction.specs.declared.transaction.Tx.{Tx}
use Rattle.rules.specs.State.{with_changes, version_in}
use Rattle.rules.specs.Job.{Job}
use Rattle.rules.specs.Fold.{running, flags}
use Rattle.rules.proofs.rows.Shared.{p0, chaincode, k, at, read_at, put, set_of, over, reading, writing, channel, any, endorsed_by, an_id, writes_k, kept, zz}
use Rattle.rules.proofs.rows.Looks.{uses}

-- of height 1
abbrev world_1 : World
world_1 = record { state = empty; history = empty; first_uses = empty; definitions = channel.definitions; blocks = kept ∷ [] }

abbrev block_in : World → List (Option Item) → Job
block_in w txs = job_of channel any w txs

abbrev after : World → List (Option Item) → World
after w txs = committed channel any w txs kept

-- the same nonce and creator, so one id
abbrev with_one : Tx → Option Item
with_one t = Some (item.Tx (endorsed_by (p0 ∷ []) t))

abbrev with_none : Tx → Option Item
with_none t = Some (item.Tx t)

-- the first one isn't endorsed
abbrev used_twice : List (Option Item)
used_twice = with_none writes_k ∷ with_one writes_k ∷ []

pub invalid_one_uses_its_id : flags (block_in world_1 used_twice) ≡ EndorsementPolicyFailure ∷ DuplicateTxId ∷ []
unfolding running with_changes
invalid_one_uses_its_id = simp uses refl

pub used_in_an_earlier_block : flags (block_in (after world_1 used_twice) (with_one writes_k ∷ [])) ≡ DuplicateTxId ∷ []
unfolding running with_changes with_uses
used_in_an_earlier_block = simp uses refl

pub first_use_stays : first_use_answer (after world_1 used_twice) an_id ≡ Some (record { block = 1; place = 0; flag = EndorsementPolicyFailure })
unfolding running with_changes with_uses
first_use_stays = simp uses refl

pub first_use_stays_for_ever : first_use_answer (after (after world_1 used_twice) (with_one writes_k ∷ [])) an_id ≡ Some (record { block = 1; place = 0; flag = EndorsementPolicyFailure })
unfolding running with_changes with_uses
first_use_stays_for_ever = simp uses refl

pub no_use : first_use_answer (after world_1 (None ∷ [])) an_id ≡ None
unfolding running with_changes with_uses
no_use = simp uses refl

-- ---- which faults leave an id unused

abbrev out_of_form : Option Item
out_of_form = with_one (writing (put k ∷ put k ∷ []))

abbrev undefined : Option Item
undefined = with_one (over (set_of zz [] [] (put k ∷ []) [] ∷ []))

abbrev stale : Option Item
stale = with_one (reading (read_at k (at 7 7) ∷ []))

abbrev of_another_channel : Option Item
of_another_channel = with_one (record writes_k { channel = codes "other" })

pub use_by_one_out_of_form : flags (block_in world_1 (out_of_form ∷ with_one writes_k ∷ [])) ≡ BadRwset ∷ DuplicateTxId ∷ []
unfolding running with_changes
use_by_one_out_of_form = simp uses refl

pub first_use_by_one_out_of_form : first_use_answer (after world_1 (out_of_form ∷ [])) an_id ≡ Some (record { block = 1; place = 0; flag = BadRwset })
unfolding running with_changes with_uses
first_use_by_one_out_of_form = simp uses refl

pub use_by_one_of_an_undefined_chaincode : flags (block_in world_1 (undefined ∷ with_one writes_k ∷ [])) ≡ InvalidChaincode ∷ DuplicateTxId ∷ []
unfolding running with_changes
use_by_one_of_an_undefined_chaincode = simp uses refl

pub use_by_a_stale_one : flags (block_in world_1 (stale ∷ with_one writes_k ∷ [])) ≡ MvccReadConflict ∷ DuplicateTxId ∷ []
unfolding running with_changes
use_by_a_stale_one = simp uses refl

pub other_channel_uses_no_id : flags (block_in world_1 (of_another_channel ∷ with_one writes_k ∷ [])) ≡ TargetChainNotFound ∷ Valid ∷ []
unfolding running with_changes
other_channel_uses_no_id = simp uses refl

pub no_transaction_uses_no_id : flags (block_in world_1 (None ∷ with_one writes_k ∷ [])) ≡ BadPayload ∷ Valid ∷ []
unfolding running with_changes
no_transaction_uses_no_id = simp uses refl

pub first_use_behind_another_channel : first_use_answer (after world_1 (of_another_channel ∷ with_one writes_k ∷ [])) an_id ≡ Some (record { block = 1; place = 1; flag = Valid })
unfolding running with_changes with_uses
first_use_behind_another_channel = simp uses refl

pub duplicate_goes_before_form : flags (block_in world_1 (with_one writes_k ∷ out_of_form ∷ [])) ≡ Valid ∷ DuplicateTxId ∷ []
unfolding running with_changes
duplicate_goes_before_form = simp uses refl

pub duplicate_changes_nothing : version_in (after world_1 (with_one writes_k ∷ with_one writes_k ∷ [])).state (chaincode, k) ≡ Some (at 1 0)
unfolding running with_changes
duplicate_changes_nothing = simp uses refl
