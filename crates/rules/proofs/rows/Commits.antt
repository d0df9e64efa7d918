-- What is hashed of blocks that are committed, and which rows differ.
use Rattle.std.proofs.Common.{◌≡◌, ℕ, List, [], ◌∷◌, ◌++◌, length, Option, Some, None, refl}
use Rattle.std.specs.Prelude.{codes, replicate}
use Rattle.std.specs.FinMap.{empty, insert, remove}
use Rattle.transaction.specs.declared.block_version.BlockVersion.TheVariants.{V1, V2}
use Rattle.policy.specs.Tree.{Tree, gate, more, none}
use Rattle.rules.specs.declared.flag.Flag.TheVariants.{Valid}
use Rattle.rules.specs.declared.row.Row.{Row}
use Rattle.rules.specs.State.{State, ChangeOf, with_changes}
use Rattle.rules.specs.Job.{Job}
use Rattle.rules.specs.Fold.{running, final_state, definitions_to}
use Rattle.rules.specs.Differing.{differing}
use Rattle.rules.specs.CommitBytes.{BlockCommit, commit_bytes, commit_hash_before}
use Rattle.rules.specs.Commit.{commit_by}
use Rattle.rules.specs.World.{World, last_commit_hash}
use Rattle.rules.specs.declared.committed.CommittedBlock.{CommittedBlock}
use Rattle.rules.proofs.rows.Shared.{at, put, deleted, policy_removed, k, chaincode, peer_of, both_peers, both_peers_text, tx, writing, one, block_over}
use Rattle.rules.proofs.rows.Looks.{compared}

abbrev row : List ℕ → ℕ → Option Tree → Row
row value block policy = record { value = value; version = at block 0; policy = policy }

abbrev with_row : State → List ℕ → Row → State
with_row s key r = insert s (chaincode, key) r

-- all that is hashed of a block
abbrev hashed : Option (List ℕ) → BlockCommit → List ℕ
hashed previous c = commit_hash_before previous ++ commit_bytes c

-- ---- bytes

-- an empty first block
abbrev first_block : BlockCommit
first_block = record { version = V1; number = 0; flags = []; before = empty; after = empty; definition = None }

pub empty_first_block : hashed None first_block ≡ replicate 32 0 ++ 1 ∷ replicate 17 0
unfolding differing with_changes
empty_first_block = simp compared refl

pub length-empty_first_block : length (hashed None first_block) ≡ 50
unfolding differing with_changes
length-empty_first_block = simp compared refl

-- a first block that puts a row with a policy of its own
abbrev first_row : State
first_row = with_row empty (codes "k1") (row (codes "v1") 0 (Some both_peers))

abbrev row_put : BlockCommit
row_put = record { version = V1; number = 0; flags = Valid ∷ []; before = empty; after = first_row; definition = None }

pub first_row_put : hashed None row_put
    ≡ replicate 32 0 ++ (1 ∷ (replicate 8 0 ++ (0 ∷ 0 ∷ 0 ∷ 1 ∷ 0 ∷ (0 ∷ 0 ∷ 0 ∷ 1 ∷ (2 ∷ 0x63 ∷ 0x63 ∷ (0 ∷ 2 ∷ 0x6b ∷ 0x31 ∷ (1 ∷ (replicate 12 0 ++ (0 ∷ 0 ∷ 0 ∷ 2 ∷ 0x76 ∷ 0x31 ∷ (0 ∷ 0x1c ∷ (both_peers_text ++ (0 ∷ []))))))))))))
unfolding differing with_changes
first_row_put = simp compared refl

pub length-first_row_put : length (hashed None row_put) ≡ 107
unfolding differing with_changes
length-first_row_put = simp compared refl

-- a block of version 2 that replaces a definition and changes no row, behind one with this commit hash
abbrev replacing : BlockCommit
replacing = record { version = V2; number = 1; flags = Valid ∷ []; before = first_row; after = first_row; definition = Some (chaincode, gate 1 (more (peer_of (codes "Org2")) none)) }

pub definition_replaced : hashed (Some (replicate 32 7)) replacing
    ≡ replicate 32 7 ++ (2 ∷ (replicate 7 0 ++ (1 ∷ (0 ∷ 0 ∷ 0 ∷ 1 ∷ 0 ∷ (0 ∷ 0 ∷ 0 ∷ 0 ∷ (1 ∷ (2 ∷ 0x63 ∷ 0x63 ∷ (0 ∷ 0x0f ∷ codes "OR('Org2.peer')"))))))))
unfolding differing with_changes
definition_replaced = simp compared refl

pub length-definition_replaced : length (hashed (Some (replicate 32 7)) replacing) ≡ 71
unfolding differing with_changes
length-definition_replaced = simp compared refl

-- k is absent; it is put, and then deleted
abbrev put_and_deleted : Job
put_and_deleted = block_over [] (one (writing (put k ∷ [])) ∷ one (writing (deleted k ∷ [])) ∷ [])

pub put_and_deleted_differ_nowhere : differing put_and_deleted.state (final_state put_and_deleted) ≡ []
unfolding differing running with_changes
put_and_deleted_differ_nowhere = simp compared refl

pub length-put_and_deleted : length (hashed (Some (replicate 32 7)) (commit_by V1 put_and_deleted)) ≡ 52
unfolding differing running with_changes definitions_to
length-put_and_deleted = simp compared refl

-- ---- which rows differ

abbrev before : State
before = with_row (with_row (with_row empty (codes "a") (row (codes "v") 0 None)) (codes "b") (row (codes "v") 0 None)) (codes "c") (row (codes "v") 0 None)

-- a stays, b is written anew, c is gone, d comes, in whatever order
abbrev new_b : Row
new_b = row (codes "v") 1 None

abbrev new_d : Row
new_d = row (codes "w") 1 None

abbrev differences : List (ChangeOf Row)
differences = ((chaincode, codes "b"), Some new_b) ∷ ((chaincode, codes "c"), None) ∷ ((chaincode, codes "d"), Some new_d) ∷ []

pub rows_that_differ : differing before (with_row (with_row (remove before (chaincode, codes "c")) (codes "b") new_b) (codes "d") new_d) ≡ differences
unfolding differing with_changes
rows_that_differ = simp compared refl

pub rows_that_differ_in_another_order : differing before (remove (with_row (with_row before (codes "d") new_d) (codes "b") new_b) (chaincode, codes "c")) ≡ differences
unfolding differing with_changes
rows_that_differ_in_another_order = simp compared refl

-- a policy alone makes a row differ
pub policy_differs : differing first_row (with_row empty (codes "k1") (row (codes "v1") 0 None)) ≡ ((chaincode, codes "k1"), Some (row (codes "v1") 0 None)) ∷ []
unfolding differing with_changes
policy_differs = simp compared refl

-- so does a value alone
pub value_differs : differing first_row (with_row empty (codes "k1") (row (codes "v2") 0 (Some both_peers))) ≡ ((chaincode, codes "k1"), Some (row (codes "v2") 0 (Some both_peers))) ∷ []
unfolding differing with_changes
value_differs = simp compared refl

-- so does a version: a valid write of the value that is there, and the removal of a policy that isn't there
abbrev written_again : Job
written_again = block_over (k ∷ []) (one (writing (put k ∷ [])) ∷ [])

pub written_again_differs : differing written_again.state (final_state written_again) ≡ ((chaincode, k), Some (row (codes "v") 1 None)) ∷ []
unfolding differing running with_changes
written_again_differs = simp compared refl

abbrev no_policy_removed : Job
no_policy_removed = block_over (k ∷ []) (one (tx [] [] [] (policy_removed k ∷ [])) ∷ [])

pub no_policy_removed_differs : differing no_policy_removed.state (final_state no_policy_removed) ≡ ((chaincode, k), Some (row (codes "v") 1 None)) ∷ []
unfolding differing running with_changes
no_policy_removed_differs = simp compared refl

-- ---- what a job commits

pub committed_again_differs : (λ (c : BlockCommit). differing c.before c.after) (commit_by V1 written_again) ≡ ((chaincode, k), Some (row (codes "v") 1 None)) ∷ []
unfolding differing running with_changes
committed_again_differs = simp compared refl

pub the_last_block_tells : (w : World) (a b : CommittedBlock) → last_commit_hash (record w { blocks = a ∷ b ∷ [] }) ≡ Some b.commit_hash
the_last_block_tells w a b = refl
