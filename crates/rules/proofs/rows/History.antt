-- The history of a key over several blocks.
use Rattle.std.proofs.Common.{◌≡◌, ℕ, [], ◌∷◌, Some, None, refl}
use Rattle.std.specs.Prelude.{codes}
use Rattle.std.specs.FinMap.{empty, get}
use Rattle.rules.specs.History.{History, with_entries, entries_at}
use Rattle.rules.specs.Fold.{entries_to}
use Rattle.rules.specs.State.{State, with_changes}
use Rattle.rules.specs.Candidate.{Candidate}
use Rattle.rules.specs.Job.{Job}
use Rattle.rules.specs.Fold.{running, final_state}
use Rattle.rules.proofs.rows.Shared.{both_peers, chaincode, k, at, put, deleted, policy_put, writing, writing_policy, one, unendorsed, block_on, block_over, entry}
use Rattle.rules.proofs.rows.Looks.{entry_looks}

-- state and history after a block of one candidate
abbrev block_of : ℕ → State × History → Candidate → Job
block_of number before candidate = block_on number before.0 (candidate ∷ [])

abbrev after : ℕ → State × History → Candidate → State × History
after number before candidate =
    (final_state (block_of number before candidate), with_entries before.1 (entries_to (block_of number before candidate) 1))

-- k is written, then deleted, then its policy is written
abbrev written : State × History
written = after 0 (empty, empty) (one (writing (put k ∷ [])))

abbrev removed : State × History
removed = after 1 written (one (writing (deleted k ∷ [])))

abbrev policy_at_last : State × History
policy_at_last = after 2 removed (one (writing_policy (policy_put k)))

pub newest_entry_first : entries_at policy_at_last.1 (chaincode, k) ≡ entry (at 1 0) None ∷ entry (at 0 0) (Some (codes "v")) ∷ []
unfolding running with_changes entries_to with_entries
newest_entry_first = simp entry_looks refl

pub absent_after_all : get policy_at_last.0 (chaincode, k) ≡ None
unfolding running with_changes entries_to with_entries
absent_after_all = simp entry_looks refl

-- k is written, then its policy alone
abbrev policy_alone : State × History
policy_alone = after 1 written (one (writing_policy (policy_put k)))

pub policy_write_alone_is_no_entry : entries_at policy_alone.1 (chaincode, k) ≡ entry (at 0 0) (Some (codes "v")) ∷ []
unfolding running with_changes entries_to with_entries
policy_write_alone_is_no_entry = simp entry_looks refl

pub policy_write_alone_keeps_the_value : get policy_alone.0 (chaincode, k) ≡ Some (record { value = codes "v"; version = at 1 0; policy = Some both_peers })
unfolding running with_changes entries_to with_entries
policy_write_alone_keeps_the_value = simp entry_looks refl

pub invalid_write_is_no_entry : entries_at (after 1 written (unendorsed (writing (deleted k ∷ [])))).1 (chaincode, k) ≡ entry (at 0 0) (Some (codes "v")) ∷ []
unfolding running with_changes entries_to with_entries
invalid_write_is_no_entry = simp entry_looks refl

pub delete_of_an_absent_key_is_an_entry : entries_at (after 0 (empty, empty) (one (writing (deleted k ∷ [])))).1 (chaincode, k) ≡ entry (at 0 0) None ∷ []
unfolding running with_changes entries_to with_entries
delete_of_an_absent_key_is_an_entry = simp entry_looks refl

pub other_keys_have_no_entry : entries_at written.1 (chaincode, codes "j") ≡ []
unfolding running with_changes entries_to with_entries
other_keys_have_no_entry = simp entry_looks refl

-- two writers of one block
abbrev twice : Job
twice = block_over [] (one (writing (put k ∷ [])) ∷ one (writing (deleted k ∷ [])) ∷ [])

pub later_writer_of_the_block_first : entries_at (with_entries empty (entries_to twice 2)) (chaincode, k) ≡ entry (at 1 1) None ∷ entry (at 1 0) (Some (codes "v")) ∷ []
unfolding running with_changes entries_to with_entries
later_writer_of_the_block_first = simp entry_looks refl
