-- Ten small blocks over one world of height 1, worked out from the rules by hand.
use Rattle.transaction.specs.declared.item.Item.{Item}
use Rattle.transaction.specs.declared.item.Item.TheVariants as item
use Rattle.transaction.specs.declared.block_version.BlockVersion.TheVariants.{V1}
use Rattle.std.proofs.Common.{◌≡◌, ℕ, true, false, List, [], ◌∷◌, ◌++◌, length, Option, Some, None, Err, refl, arith}
use Rattle.std.specs.Prelude.{codes, replicate}
use Rattle.std.specs.FinMap.{from_entries, get, empty}
use Rattle.block.specs.declared.block.Block.{Block}
use Rattle.block.specs.declared.block.Previous.TheVariants.{Hash}
use Rattle.transaction.specs.declared.identity.Identity.{Identity}
use Rattle.transaction.specs.declared.transaction.Range.{Range}
use Rattle.transaction.specs.declared.transaction.Tx.{Tx}
use Rattle.transaction.specs.declared.transaction.Version.{Version}
use Rattle.transaction.specs.declared.transaction.Write.{Write}
use Rattle.block.specs.Grammar.{bytes_of, Spells}
use Rattle.transaction.specs.declared.block_version.BlockVersion.TheVariants.{V1}
use Rattle.values.specs.Order.{bytes_cmp}
use Rattle.policy.specs.Policies.{Policies}
use Rattle.policy.specs.Tree.{Tree}
use Rattle.channel.specs.Configuration.{Configuration}
use Rattle.rules.specs.declared.answer.Refused.TheVariants.{WrongNumber, WrongPrevious}
use Rattle.rules.specs.declared.flag.Flag.TheVariants.{Valid, EndorsementPolicyFailure, MvccReadConflict, PhantomReadConflict, BadRwset, InvalidChaincode, DuplicateTxId, TargetChainNotFound}
use Rattle.rules.specs.declared.row.Row.{Row}
use Rattle.rules.specs.Answers.{first_use_answer}
use Rattle.rules.specs.Candidate.{Candidate, candidate_of}
use Rattle.rules.specs.Commit.{job_of, committed}
use Rattle.rules.specs.FirstUses.{with_uses}
use Rattle.rules.specs.Fold.{running, flags, final_state, entries_to}
use Rattle.rules.specs.History.{History, with_entries, entries_at}
use Rattle.rules.specs.Job.{Job}
use Rattle.rules.specs.State.{State, key_cmp, with_changes, version_in}
use Rattle.rules.specs.Step.{Step}
use Rattle.rules.specs.World.{World}
use Rattle.rules.proofs.rows.Shared.{p0, q0, either_peer, both_peers, chaincode, k, at, read_at, absent, put, deleted, policy_put, policy_removed, set_of, an_id, over, tx, reading, scanning, writing, writing_policy, any, endorsed_by, a, c, dd, zz, kept, found, entry}
use Rattle.rules.proofs.rows.Looks.{looks, uses, scans, entry_looks}

-- ---- the world

abbrev g : List ℕ
g = codes "g"

abbrev m : List ℕ
m = codes "m"

-- without a row
abbrev q : List ℕ
q = codes "q"

abbrev first_row : Option Tree → Row
first_row policy = record { value = codes "v"; version = at 0 0; policy = policy }

abbrev before : State
before = from_entries {R = key_cmp} (
    ((chaincode, a), first_row None)
    ∷ ((chaincode, c), first_row None)
    ∷ ((chaincode, g), first_row (Some both_peers))
    ∷ ((chaincode, k), first_row None)
    ∷ ((dd, m), first_row None)
    ∷ [])

-- cc wants either peer, dd both
abbrev definitions : Policies
definitions = from_entries {R = bytes_cmp} ((chaincode, either_peer) ∷ (dd, both_peers) ∷ [])

abbrev channel : Configuration
channel = record { name = codes "ch"; definitions = definitions; admin = None }

abbrev world_1 : World
world_1 = record { state = before; history = empty; first_uses = empty; definitions = definitions; blocks = kept ∷ [] }

-- with an id that is new
abbrev endorsed : List Identity → Tx → Candidate
endorsed endorsers t = candidate_of channel any true false (Some (item.Tx (endorsed_by endorsers t)))

abbrev by_first : Tx → Candidate
by_first t = endorsed (p0 ∷ []) t

abbrev by_both : Tx → Candidate
by_both t = endorsed (p0 ∷ q0 ∷ []) t

abbrev block_1 : List Candidate → Job
block_1 candidates = record { number = 1; state = before; definitions = definitions; admin = None; candidates = candidates }

-- another value than any key has before
abbrev put_new : List ℕ → Write
put_new key = record { key = key; value = Some (codes "new") }

abbrev new_row : Version → Row
new_row v = record { value = codes "new"; version = v; policy = None }

-- ---- a key that is written, and read as it was and as it is

abbrev written_and_read : Job
written_and_read = block_1 (
    by_first (writing (put k ∷ []))
    ∷ by_first (tx (read_at k (at 0 0) ∷ []) [] (put a ∷ []) [])
    ∷ by_first (reading (read_at k (at 1 0) ∷ []))
    ∷ [])

pub reads_as_it_was_and_as_it_is : flags written_and_read ≡ Valid ∷ MvccReadConflict ∷ Valid ∷ []
unfolding running with_changes
reads_as_it_was_and_as_it_is = simp looks refl

pub written_key_has_the_writers_version : version_in (final_state written_and_read) (chaincode, k) ≡ Some (at 1 0)
unfolding running with_changes
written_key_has_the_writers_version = simp looks refl

pub stale_reader_writes_nothing : version_in (final_state written_and_read) (chaincode, a) ≡ Some (at 0 0)
unfolding running with_changes
stale_reader_writes_nothing = simp looks refl

-- ---- a guarded key that is deleted and written again

abbrev deleted_and_written : Job
deleted_and_written = block_1 (by_both (writing (deleted g ∷ [])) ∷ by_first (writing (put g ∷ [])) ∷ by_both (writing (put_new g ∷ [])) ∷ [])

pub deleted_key_stays_guarded : flags deleted_and_written ≡ Valid ∷ EndorsementPolicyFailure ∷ Valid ∷ []
unfolding running with_changes
deleted_key_stays_guarded = simp looks refl

pub written_again_without_a_policy : get (final_state deleted_and_written) (chaincode, g) ≡ Some (new_row (at 1 2))
unfolding running with_changes
written_again_without_a_policy = simp looks refl

-- ---- a policy write that fails on a read

abbrev stale_policy_write : Job
stale_policy_write = block_1 (
    by_first (tx (absent a ∷ []) [] [] (policy_put k ∷ []))
    ∷ by_first (writing (put_new k ∷ []))
    ∷ by_first (reading (read_at k (at 0 0) ∷ []))
    ∷ [])

pub stale_policy_write_touches : flags stale_policy_write ≡ MvccReadConflict ∷ EndorsementPolicyFailure ∷ Valid ∷ []
unfolding running with_changes
stale_policy_write_touches = simp looks refl

pub touched_key_is_as_before : get (final_state stale_policy_write) (chaincode, k) ≡ Some (first_row None)
unfolding running with_changes
touched_key_is_as_before = simp looks refl

-- ---- ranges around an insert

-- from a to before d, read to its end
abbrev a_and_c : Version → Candidate
a_and_c version_of_c = by_first (scanning (record { start = a; end = codes "d"; exhausted = true; results = found a (at 0 0) ∷ found c version_of_c ∷ [] }))

-- from a to before z, not read to its end
abbrev a_alone : Candidate
a_alone = by_first (scanning (record { start = a; end = codes "z"; exhausted = false; results = found a (at 0 0) ∷ [] }))

abbrev inserts : List ℕ → Candidate
inserts key = by_first (writing (put key ∷ []))

abbrev inserted_between : List ℕ → Job
inserted_between key = block_1 (a_and_c (at 0 0) ∷ a_and_c (at 0 1) ∷ inserts key ∷ a_alone ∷ [])

abbrev inserted_first : List ℕ → Job
inserted_first key = block_1 (inserts key ∷ a_and_c (at 0 0) ∷ a_and_c (at 0 1) ∷ a_alone ∷ [])

pub insert_in_the_range_comes_later : flags (inserted_between (codes "b")) ≡ Valid ∷ PhantomReadConflict ∷ Valid ∷ Valid ∷ []
unfolding running with_changes
insert_in_the_range_comes_later = simp scans refl

-- capital letters go before small ones
pub insert_before_the_range_comes_later : flags (inserted_between (codes "Z")) ≡ Valid ∷ PhantomReadConflict ∷ Valid ∷ Valid ∷ []
unfolding running with_changes
insert_before_the_range_comes_later = simp scans refl

pub insert_in_the_range_comes_first : flags (inserted_first (codes "b")) ≡ Valid ∷ PhantomReadConflict ∷ PhantomReadConflict ∷ Valid ∷ []
unfolding running with_changes
insert_in_the_range_comes_first = simp scans refl

pub insert_before_the_range_comes_first : flags (inserted_first (codes "Z")) ≡ Valid ∷ Valid ∷ PhantomReadConflict ∷ Valid ∷ []
unfolding running with_changes
insert_before_the_range_comes_first = simp scans refl

-- ---- one id three times

-- by nobody, by Org1, and by Org1 for another channel
abbrev one_id : List (Option Item)
one_id =
    let t = writing (put k ∷ []) in
    Some (item.Tx t) ∷ Some (item.Tx (endorsed_by (p0 ∷ []) t)) ∷ Some (item.Tx (endorsed_by (p0 ∷ []) (record t { channel = codes "other" }))) ∷ []

pub other_channel_goes_before_duplicate : flags (job_of channel any world_1 one_id) ≡ EndorsementPolicyFailure ∷ DuplicateTxId ∷ TargetChainNotFound ∷ []
unfolding running with_changes
other_channel_goes_before_duplicate = simp uses refl

pub first_use_is_the_unendorsed_one : first_use_answer (committed channel any world_1 one_id kept) an_id ≡ Some (record { block = 1; place = 0; flag = EndorsementPolicyFailure })
unfolding running with_changes with_uses
first_use_is_the_unendorsed_one = simp uses refl

-- ---- a phantom before a stale read, and a namespace that repeats

abbrev misses_c : Range
misses_c = record { start = a; end = codes "d"; exhausted = true; results = found a (at 0 0) ∷ [] }

abbrev phantom_then_stale : Tx
phantom_then_stale = over (set_of chaincode [] (misses_c ∷ []) [] [] ∷ set_of dd (read_at m (at 0 1) ∷ []) [] [] [] ∷ [])

abbrev repeats : Tx
repeats = over (set_of chaincode [] [] [] [] ∷ set_of chaincode [] [] [] [] ∷ [])

pub phantom_of_the_first_namespace_goes_first : flags (block_1 (by_first phantom_then_stale ∷ by_first repeats ∷ [])) ≡ PhantomReadConflict ∷ BadRwset ∷ []
unfolding running with_changes
phantom_of_the_first_namespace_goes_first = simp scans refl

-- ---- another namespace than the named chaincode's

abbrev writes_m : Tx
writes_m = over (set_of dd [] [] (put m ∷ []) [] ∷ [])

abbrev reads_undefined : Tx
reads_undefined = over (set_of zz (absent q ∷ []) [] [] [] ∷ [])

abbrev writes_undefined : Tx
writes_undefined = over (set_of zz [] [] (put q ∷ []) [] ∷ [])

pub written_namespaces_want_policy_and_definition : flags (block_1 (by_both writes_m ∷ by_first writes_m ∷ by_first reads_undefined ∷ by_first writes_undefined ∷ [])) ≡ Valid ∷ EndorsementPolicyFailure ∷ Valid ∷ InvalidChaincode ∷ []
unfolding running with_changes
written_namespaces_want_policy_and_definition = simp looks refl

-- ---- the policy of a key without a row

abbrev policy_without_a_row : Job
policy_without_a_row = block_1 (by_first (writing_policy (policy_put q)) ∷ by_first (writing (put q ∷ [])) ∷ by_first (reading (absent q ∷ [])) ∷ [])

pub policy_without_a_row_touches : flags policy_without_a_row ≡ Valid ∷ EndorsementPolicyFailure ∷ Valid ∷ []
unfolding running with_changes
policy_without_a_row_touches = simp looks refl

pub policy_without_a_row_makes_none : get (final_state policy_without_a_row) (chaincode, q) ≡ None
unfolding running with_changes
policy_without_a_row_makes_none = simp looks refl

-- of any key
pub policy_without_a_row_is_no_entry : entries_to policy_without_a_row 3 ≡ []
unfolding running with_changes entries_to
policy_without_a_row_is_no_entry = simp looks refl

-- ---- a value beside a removed policy, a delete, and reads of what is left

abbrev written_and_deleted : Job
written_and_deleted = block_1 (
    by_first (tx [] [] (put_new k ∷ []) (policy_removed k ∷ []))
    ∷ by_first (writing (deleted c ∷ []))
    ∷ by_first (reading (absent c ∷ read_at a (at 0 0) ∷ []))
    ∷ [])

pub reads_what_is_left : flags written_and_deleted ≡ Valid ∷ Valid ∷ Valid ∷ []
unfolding running with_changes
reads_what_is_left = simp looks refl

-- over any history
module _ (old : History) where
  pub value_goes_before_what_it_had : entries_at (with_entries old (entries_to written_and_deleted 3)) (chaincode, k) ≡ entry (at 1 0) (Some (codes "new")) ∷ entries_at old (chaincode, k)
  unfolding running with_changes entries_to with_entries
  value_goes_before_what_it_had = simp entry_looks refl

  pub delete_goes_before_what_it_had : entries_at (with_entries old (entries_to written_and_deleted 3)) (chaincode, c) ≡ entry (at 1 1) None ∷ entries_at old (chaincode, c)
  unfolding running with_changes entries_to with_entries
  delete_goes_before_what_it_had = simp entry_looks refl

-- ---- blocks that aren't the next one

-- without transactions, whose previous hash isn't that of the kept block
abbrev unlinked : ℕ → List ℕ → Block
unlinked n data_hash = record { version = V1; header = record { number = n; previous = Hash (replicate 32 0); data_hash = data_hash }; txs = [] }

-- whatever the data hash
module _ (data_hash : List ℕ) (data_hash_len : length data_hash ≡ 32) where
  spelled_1 : Spells (bytes_of (unlinked 1 data_hash)) (unlinked 1 data_hash)
  spelled_1 = record { header = record { number = omega arith; previous = refl; data_hash = data_hash_len }; count = omega arith; each = tt; fields = refl }

  spelled_2 : Spells (bytes_of (unlinked 2 data_hash)) (unlinked 2 data_hash)
  spelled_2 = record { header = record { number = omega arith; previous = refl; data_hash = data_hash_len }; count = omega arith; each = tt; fields = refl }

  pub previous_goes_before_data_hash : Step channel any world_1 (bytes_of (unlinked 1 data_hash)) (Err WrongPrevious) world_1
  previous_goes_before_data_hash = ((unlinked 1 data_hash, spelled_1, (refl, (λ e. absurd cc))), refl)

  pub number_goes_before_all : Step channel any world_1 (bytes_of (unlinked 2 data_hash)) (Err (WrongNumber 1 2)) world_1
  number_goes_before_all = ((unlinked 2 data_hash, spelled_2, ((λ e. absurd (omega arith)), refl, refl)), refl)
