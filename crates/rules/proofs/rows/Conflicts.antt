-- Reads of keys that the block writes.
use Rattle.std.proofs.Common.{◌≡◌, ℕ, true, List, [], ◌∷◌, None, refl}
use Rattle.std.specs.Prelude.{codes}
use Rattle.rules.specs.declared.flag.Flag.TheVariants.{Valid, EndorsementPolicyFailure, MvccReadConflict, PhantomReadConflict}
use Rattle.transaction.specs.declared.transaction.Read.{Read}
use Rattle.transaction.specs.declared.transaction.Range.{Range}
use Rattle.rules.specs.State.{with_changes, version_in}
use Rattle.rules.specs.Candidate.{Candidate}
use Rattle.rules.specs.Job.{Job}
use Rattle.rules.specs.Fold.{running, flags, final_state}
use Rattle.rules.proofs.rows.Shared.{chaincode, k, at, read_at, absent, put, deleted, policy_put, set_of, over, tx, reading, writing, writing_policy, one, unendorsed, documentation_block, block_over, dd}
use Rattle.rules.proofs.rows.Looks.{looks, scans}

-- the example of Fabric's documentation ('Read-Write set semantics')
pub documentation_example : flags documentation_block ≡ Valid ∷ MvccReadConflict ∷ Valid ∷ MvccReadConflict ∷ Valid ∷ []
unfolding running with_changes
documentation_example = simp looks refl

pub absent_once_deleted : flags (block_over (k ∷ []) (one (writing (deleted k ∷ [])) ∷ one (reading (absent k ∷ [])) ∷ [])) ≡ Valid ∷ Valid ∷ []
unfolding running with_changes
absent_once_deleted = simp looks refl

abbrev policy_after_delete : Job
policy_after_delete = block_over (k ∷ []) (one (writing (deleted k ∷ [])) ∷ one (writing_policy (policy_put k)) ∷ one (reading (absent k ∷ [])) ∷ [])

pub policy_write_makes_no_row : flags policy_after_delete ≡ Valid ∷ Valid ∷ Valid ∷ []
unfolding running with_changes
policy_write_makes_no_row = simp looks refl

pub policy_write_makes_no_row_after : version_in (final_state policy_after_delete) (chaincode, k) ≡ None
unfolding running with_changes
policy_write_makes_no_row_after = simp looks refl

pub reads_a_write_of_the_block : flags (block_over [] (one (writing (put k ∷ [])) ∷ one (reading (read_at k (at 1 0) ∷ [])) ∷ [])) ≡ Valid ∷ Valid ∷ []
unfolding running with_changes
reads_a_write_of_the_block = simp looks refl

pub reads_a_write_of_an_invalid_transaction : flags (block_over [] (unendorsed (writing (put k ∷ [])) ∷ one (reading (read_at k (at 1 0) ∷ [])) ∷ [])) ≡ EndorsementPolicyFailure ∷ MvccReadConflict ∷ []
unfolding running with_changes
reads_a_write_of_an_invalid_transaction = simp looks refl

-- the newest writer that is valid counts
pub reads_past_an_invalid_writer : flags (block_over [] (one (writing (put k ∷ [])) ∷ unendorsed (writing (put k ∷ [])) ∷ one (reading (read_at k (at 1 0) ∷ [])) ∷ [])) ≡ Valid ∷ EndorsementPolicyFailure ∷ Valid ∷ []
unfolding running with_changes
reads_past_an_invalid_writer = simp looks refl

pub policy_write_alone_makes_reads_stale : flags (block_over (k ∷ []) (one (writing_policy (policy_put k)) ∷ one (reading (read_at k (at 0 0) ∷ [])) ∷ one (reading (read_at k (at 1 0) ∷ [])) ∷ [])) ≡ Valid ∷ MvccReadConflict ∷ Valid ∷ []
unfolding running with_changes
policy_write_alone_makes_reads_stale = simp looks refl

-- ---- the order of faults

abbrev a_to_d : Range
a_to_d = record { start = codes "a"; end = codes "d"; exhausted = true; results = [] }

abbrev stale : List Read
stale = read_at (codes "a") (at 5 5) ∷ []

-- a phantom in the first namespace, a stale read in the second
pub first_namespace_goes_first : flags (block_over (codes "a" ∷ []) (one (over (set_of chaincode [] (a_to_d ∷ []) [] [] ∷ set_of dd stale [] [] [] ∷ [])) ∷ [])) ≡ PhantomReadConflict ∷ []
unfolding running with_changes
first_namespace_goes_first = simp scans refl

pub reads_go_before_ranges : flags (block_over (codes "a" ∷ []) (one (over (set_of chaincode stale (a_to_d ∷ []) [] [] ∷ [])) ∷ [])) ≡ MvccReadConflict ∷ []
unfolding running with_changes
reads_go_before_ranges = simp scans refl

-- the first namespace is as it was read, the second is not
pub second_namespace_is_asked : flags (block_over (codes "a" ∷ []) (one (over (set_of chaincode (read_at (codes "a") (at 0 0) ∷ []) [] [] [] ∷ set_of dd stale [] [] [] ∷ [])) ∷ one (over (set_of dd [] (a_to_d ∷ []) [] [] ∷ set_of chaincode [] (a_to_d ∷ []) [] [] ∷ [])) ∷ [])) ≡ MvccReadConflict ∷ PhantomReadConflict ∷ []
unfolding running with_changes
second_namespace_is_asked = simp scans refl

-- ---- a longer chain: each reads what the one before it writes

abbrev passes : List ℕ → List ℕ → Candidate
passes from to = one (tx (read_at from (at 0 0) ∷ []) [] (put to ∷ []) [])

pub every_second_one_is_stale : flags (block_over (codes "k0" ∷ codes "k1" ∷ codes "k2" ∷ codes "k3" ∷ codes "k4" ∷ codes "k5" ∷ codes "k6" ∷ []) (
    passes (codes "k0") (codes "k1")
    ∷ passes (codes "k1") (codes "k2")
    ∷ passes (codes "k2") (codes "k3")
    ∷ passes (codes "k3") (codes "k4")
    ∷ passes (codes "k4") (codes "k5")
    ∷ passes (codes "k5") (codes "k6")
    ∷ [])) ≡ Valid ∷ MvccReadConflict ∷ Valid ∷ MvccReadConflict ∷ Valid ∷ MvccReadConflict ∷ []
unfolding running with_changes
every_second_one_is_stale = simp looks refl
