-- Range queries.
use Rattle.std.proofs.Common.{◌≡◌, ℕ, Bool, true, false, List, [], ◌∷◌, refl}
use Rattle.std.specs.Prelude.{codes}
use Rattle.rules.specs.declared.flag.Flag.TheVariants.{Valid, EndorsementPolicyFailure, PhantomReadConflict}
use Rattle.transaction.specs.declared.transaction.Range.{Range}
use Rattle.transaction.specs.declared.transaction.Tx.{Tx}
use Rattle.rules.specs.State.{with_changes}
use Rattle.rules.specs.Candidate.{Candidate}
use Rattle.rules.specs.Job.{Job}
use Rattle.rules.specs.Fold.{running, flags}
use Rattle.transaction.specs.declared.transaction.KeyVersion.{KeyVersion}
use Rattle.rules.proofs.rows.Shared.{at, put, deleted, scanning, writing, one, unendorsed, block_over, found}
use Rattle.rules.proofs.rows.Looks.{scans}

-- a and c as transaction 0 of block 0 wrote them
abbrev a_and_c : List KeyVersion
a_and_c = found (codes "a") (at 0 0) ∷ found (codes "c") (at 0 0) ∷ []

-- from a to before d
abbrev a_to_d : Bool → List KeyVersion → Range
a_to_d exhausted results = record { start = codes "a"; end = codes "d"; exhausted = exhausted; results = results }

-- the query behind another transaction
abbrev scanned_after : Candidate → Range → Job
scanned_after first range = block_over (codes "a" ∷ codes "c" ∷ []) (first ∷ one (scanning range) ∷ [])

abbrev inserts : List ℕ → Tx
inserts key = writing (put key ∷ [])

pub insert_of_the_block_is_seen : flags (scanned_after (one (inserts (codes "b"))) (a_to_d true a_and_c)) ≡ Valid ∷ PhantomReadConflict ∷ []
unfolding running with_changes
insert_of_the_block_is_seen = simp scans refl

pub insert_of_an_invalid_transaction_is_not : flags (scanned_after (unendorsed (inserts (codes "b"))) (a_to_d true a_and_c)) ≡ EndorsementPolicyFailure ∷ Valid ∷ []
unfolding running with_changes
insert_of_an_invalid_transaction_is_not = simp scans refl

pub insert_of_the_block_is_found : flags (scanned_after (one (inserts (codes "b"))) (a_to_d true (found (codes "a") (at 0 0) ∷ found (codes "b") (at 1 0) ∷ found (codes "c") (at 0 0) ∷ []))) ≡ Valid ∷ Valid ∷ []
unfolding running with_changes
insert_of_the_block_is_found = simp scans refl

-- a query that was not read to its end is compared up to its last result
pub insert_behind_the_last_result : flags (scanned_after (one (inserts (codes "cc"))) (a_to_d false a_and_c)) ≡ Valid ∷ Valid ∷ []
unfolding running with_changes
insert_behind_the_last_result = simp scans refl

pub insert_before_the_last_result : flags (scanned_after (one (inserts (codes "b"))) (a_to_d false a_and_c)) ≡ Valid ∷ PhantomReadConflict ∷ []
unfolding running with_changes
insert_before_the_last_result = simp scans refl

-- it matches whatever the state has
pub no_result_and_not_at_the_end : flags (scanned_after (one (inserts (codes "b"))) (a_to_d false [])) ≡ Valid ∷ Valid ∷ []
unfolding running with_changes
no_result_and_not_at_the_end = simp scans refl

pub no_result_and_another_insert : flags (scanned_after (one (inserts (codes "cc"))) (a_to_d false [])) ≡ Valid ∷ Valid ∷ []
unfolding running with_changes
no_result_and_another_insert = simp scans refl

pub delete_of_the_block_is_seen : flags (scanned_after (one (writing (deleted (codes "c") ∷ []))) (a_to_d true a_and_c)) ≡ Valid ∷ PhantomReadConflict ∷ []
unfolding running with_changes
delete_of_the_block_is_seen = simp scans refl

pub deleted_key_is_not_found : flags (scanned_after (one (writing (deleted (codes "c") ∷ []))) (a_to_d true (found (codes "a") (at 0 0) ∷ []))) ≡ Valid ∷ Valid ∷ []
unfolding running with_changes
deleted_key_is_not_found = simp scans refl

pub deleted_last_result_is_missed : flags (scanned_after (one (writing (deleted (codes "c") ∷ []))) (a_to_d false a_and_c)) ≡ Valid ∷ PhantomReadConflict ∷ []
unfolding running with_changes
deleted_last_result_is_missed = simp scans refl

-- the same keys, and another version
pub write_of_the_block_changes_a_version : flags (scanned_after (one (inserts (codes "c"))) (a_to_d true a_and_c)) ≡ Valid ∷ PhantomReadConflict ∷ []
unfolding running with_changes
write_of_the_block_changes_a_version = simp scans refl

abbrev scanned : List (List ℕ) → Range → Job
scanned keys range = block_over keys (one (scanning range) ∷ [])

-- the keys of the state, one with another version than the state has
pub another_version : flags (scanned (codes "a" ∷ codes "c" ∷ []) (a_to_d true (found (codes "a") (at 0 0) ∷ found (codes "c") (at 0 1) ∷ []))) ≡ PhantomReadConflict ∷ []
unfolding running with_changes
another_version = simp scans refl

pub keys_behind_the_last_result : flags (scanned (codes "a" ∷ codes "c" ∷ []) (a_to_d false (found (codes "a") (at 0 0) ∷ []))) ≡ Valid ∷ []
unfolding running with_changes
keys_behind_the_last_result = simp scans refl

-- the same results, of a query that was read to its end
pub keys_behind_the_last_result_at_the_end : flags (scanned (codes "a" ∷ codes "c" ∷ []) (a_to_d true (found (codes "a") (at 0 0) ∷ []))) ≡ PhantomReadConflict ∷ []
unfolding running with_changes
keys_behind_the_last_result_at_the_end = simp scans refl

pub end_is_not_in_the_range : flags (scanned (codes "a" ∷ codes "c" ∷ codes "d" ∷ []) (a_to_d true a_and_c)) ≡ Valid ∷ []
unfolding running with_changes
end_is_not_in_the_range = simp scans refl

pub start_is_in_the_range : flags (scanned (codes "a" ∷ codes "c" ∷ []) (a_to_d true (found (codes "c") (at 0 0) ∷ []))) ≡ PhantomReadConflict ∷ []
unfolding running with_changes
start_is_in_the_range = simp scans refl

pub empty_end_is_no_bound : flags (scanned (codes "a" ∷ codes "c" ∷ codes "zz" ∷ []) (record { start = codes "b"; end = []; exhausted = true; results = found (codes "c") (at 0 0) ∷ found (codes "zz") (at 0 0) ∷ [] })) ≡ Valid ∷ []
unfolding running with_changes
empty_end_is_no_bound = simp scans refl
