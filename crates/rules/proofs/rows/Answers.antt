-- Answers of queries over one small world.
use Rattle.transaction.specs.declared.block_version.BlockVersion.TheVariants.{V1}
use Rattle.std.proofs.Common.{◌≡◌, ℕ, true, false, List, [], ◌∷◌, Some, None, refl}
use Rattle.std.specs.Prelude.{codes, replicate}
use Rattle.std.specs.FinMap.{from_entries, empty}
use Rattle.transaction.specs.declared.block_version.BlockVersion.TheVariants.{V1, V2}
use Rattle.policy.specs.Policies.{Policies}
use Rattle.rules.specs.declared.committed.CommittedBlock.{CommittedBlock}
use Rattle.rules.specs.declared.first_use.FirstUse.{FirstUse}
use Rattle.rules.specs.declared.flag.Flag.TheVariants.{Valid, MvccReadConflict}
use Rattle.rules.specs.declared.history.HistoryEntry.{HistoryEntry}
use Rattle.rules.specs.declared.row.Row.{Row}
use Rattle.rules.specs.State.{StateKey, State, key_cmp}
use Rattle.rules.specs.History.{with_entries}
use Rattle.rules.specs.FirstUses.{with_uses}
use Rattle.rules.specs.World.{World, empty_world}
use Rattle.rules.specs.Answers.{reply, row_answer, range_answer, history_answer, first_use_answer, definition_answer, block_answer, height_answer}
use Rattle.rules.proofs.rows.Shared.{either_peer, both_peers, definitions_with, chaincode, at, a, c, dd, entry}
use Rattle.rules.proofs.rows.Looks.{looks, uses, entry_looks, scans}

-- ---- the world

-- in the other namespace alone
abbrev b : List ℕ
b = codes "b"

abbrev cc_key : List ℕ
cc_key = codes "cc"

abbrev row_a : Row
row_a = record { value = codes "v1"; version = at 0 1; policy = None }

abbrev row_c : Row
row_c = record { value = codes "v2"; version = at 0 2; policy = Some both_peers }

abbrev row_cc : Row
row_cc = record { value = codes "v3"; version = at 0 4; policy = None }

abbrev row_b : Row
row_b = record { value = codes "w"; version = at 0 3; policy = None }

-- not in the order of its keys
abbrev state : State
state = from_entries {R = key_cmp} (
    ((chaincode, cc_key), row_cc)
    ∷ ((dd, b), row_b)
    ∷ ((chaincode, a), row_a)
    ∷ ((chaincode, c), row_c)
    ∷ [])

-- a is written twice; d is deleted and has no row
abbrev entries : List (StateKey × HistoryEntry)
entries =
    ((chaincode, a), entry (at 0 0) (Some (codes "v")))
    ∷ ((chaincode, codes "d"), entry (at 0 1) None)
    ∷ ((chaincode, a), entry (at 0 1) (Some (codes "v1")))
    ∷ []

abbrev used : ℕ → FirstUse
used i = record { block = 0; place = i; flag = MvccReadConflict }

-- any bytes will do for an id
abbrev new_uses : List (List ℕ × FirstUse)
new_uses = (codes "x", used 4) ∷ (codes "y", used 5) ∷ []

abbrev block_0 : CommittedBlock
block_0 = record { bytes = codes "0"; header_hash = replicate 32 1; commit_hash = replicate 32 5; version = V1; flags = Valid ∷ [] }

abbrev block_1 : CommittedBlock
block_1 = record { bytes = codes "1"; header_hash = replicate 32 2; commit_hash = replicate 32 6; version = V2; flags = [] }

abbrev definitions : Policies
definitions = definitions_with either_peer

abbrev world_of : List CommittedBlock → World
world_of blocks = record { state = state; history = with_entries empty entries; first_uses = with_uses empty new_uses; definitions = definitions; blocks = blocks }

abbrev world_1 : World
world_1 = world_of (block_0 ∷ [])

abbrev world_2 : World
world_2 = world_of (block_0 ∷ block_1 ∷ [])

-- ---- rows

pub row_that_is_there : row_answer world_1 (chaincode, c) ≡ Some row_c
row_that_is_there = simp looks refl

pub row_that_is_not_there : row_answer world_1 (chaincode, codes "d") ≡ None
row_that_is_not_there = simp looks refl

-- a key of the other namespace
pub row_of_another_namespace : row_answer world_1 (chaincode, b) ≡ None
row_of_another_namespace = simp looks refl

-- ---- ranges

abbrev rows_a_c : List (StateKey × Row)
rows_a_c = ((chaincode, a), row_a) ∷ ((chaincode, c), row_c) ∷ []

abbrev rows_all : List (StateKey × Row)
rows_all = ((chaincode, a), row_a) ∷ ((chaincode, c), row_c) ∷ ((chaincode, cc_key), row_cc) ∷ []

pub no_row_is_wanted : range_answer world_1 chaincode a (codes "d") 0 ≡ record { rows = []; more = true }
no_row_is_wanted = simp scans refl

pub limit_below_the_rows : range_answer world_1 chaincode a (codes "d") 2 ≡ record { rows = rows_a_c; more = true }
limit_below_the_rows = simp scans refl

pub limit_of_the_rows : range_answer world_1 chaincode a (codes "d") 3 ≡ record { rows = rows_all; more = false }
limit_of_the_rows = simp scans refl

pub limit_above_the_rows : range_answer world_1 chaincode a (codes "d") 4 ≡ record { rows = rows_all; more = false }
limit_above_the_rows = simp scans refl

-- cc is the end
pub end_is_left_out : range_answer world_1 chaincode a cc_key 4 ≡ record { rows = rows_a_c; more = false }
end_is_left_out = simp scans refl

-- c is the start
pub start_is_in_it : range_answer world_1 chaincode c (codes "d") 4 ≡ record { rows = ((chaincode, c), row_c) ∷ ((chaincode, cc_key), row_cc) ∷ []; more = false }
start_is_in_it = simp scans refl

-- and b, which is between a and c, is the other namespace's
pub start_between_rows : range_answer world_1 chaincode b (codes "d") 4 ≡ record { rows = ((chaincode, c), row_c) ∷ ((chaincode, cc_key), row_cc) ∷ []; more = false }
start_between_rows = simp scans refl

pub empty_end_bounds_nothing : range_answer world_1 chaincode [] [] 4 ≡ record { rows = rows_all; more = false }
empty_end_bounds_nothing = simp scans refl

pub empty_end_from_a_start : range_answer world_1 chaincode cc_key [] 4 ≡ record { rows = ((chaincode, cc_key), row_cc) ∷ []; more = false }
empty_end_from_a_start = simp scans refl

pub start_is_the_end : range_answer world_1 chaincode c c 4 ≡ record { rows = []; more = false }
start_is_the_end = simp scans refl

pub start_behind_the_end : range_answer world_1 chaincode cc_key a 4 ≡ record { rows = []; more = false }
start_behind_the_end = simp scans refl

-- not even where no row is wanted
pub nothing_more_of_nothing : range_answer world_1 chaincode cc_key a 0 ≡ record { rows = []; more = false }
nothing_more_of_nothing = simp scans refl

pub other_namespace_has_its_own : range_answer world_1 dd [] [] 4 ≡ record { rows = ((dd, b), row_b) ∷ []; more = false }
other_namespace_has_its_own = simp scans refl

pub no_rows_of_an_unknown_namespace : range_answer world_1 (codes "c") [] [] 4 ≡ record { rows = []; more = false }
no_rows_of_an_unknown_namespace = simp scans refl

-- ---- histories

pub newest_entry_goes_first : history_answer world_1 (chaincode, a) ≡ entry (at 0 1) (Some (codes "v1")) ∷ entry (at 0 0) (Some (codes "v")) ∷ []
unfolding with_entries
newest_entry_goes_first = simp entry_looks refl

pub history_without_a_row : history_answer world_1 (chaincode, codes "d") ≡ entry (at 0 1) None ∷ []
unfolding with_entries
history_without_a_row = simp entry_looks refl

pub no_history : history_answer world_1 (chaincode, c) ≡ []
unfolding with_entries
no_history = simp entry_looks refl

-- ---- first uses

pub use_that_is_there : first_use_answer world_1 (codes "x") ≡ Some (used 4)
unfolding with_uses
use_that_is_there = simp uses refl

pub use_that_is_not_there : first_use_answer world_1 (codes "z") ≡ None
unfolding with_uses
use_that_is_not_there = simp uses refl

-- ---- blocks and heights

pub text_of_a_definition : definition_answer world_1 chaincode ≡ Some (codes "OR('Org1.peer','Org2.peer')")
text_of_a_definition = simp looks refl

pub no_definition : definition_answer world_1 dd ≡ None
no_definition = simp looks refl

pub first_block : block_answer world_2 0 ≡ Some block_0
first_block = refl

pub last_block : block_answer world_2 1 ≡ Some block_1
last_block = refl

pub no_block_at_the_height : block_answer world_2 2 ≡ None
no_block_at_the_height = refl

pub no_block_at_height_0 : block_answer (empty_world definitions) 0 ≡ None
no_block_at_height_0 = refl

pub height_0 : height_answer (empty_world definitions) ≡ 0
height_0 = refl

pub height_2 : height_answer world_2 ≡ 2
height_2 = refl

-- ---- replies

pub reply_at_height_0 : reply (empty_world definitions) (height_answer (empty_world definitions)) ≡ record { height = 0; header_hash = None; commit_hash = None; answer = 0 }
reply_at_height_0 = refl

pub reply_at_height_1 : reply world_1 (block_answer world_1 0) ≡ record { height = 1; header_hash = Some (replicate 32 1); commit_hash = Some (replicate 32 5); answer = Some block_0 }
reply_at_height_1 = refl

-- the hash of the newest block
pub reply_at_height_2 : reply world_2 (block_answer world_2 0) ≡ record { height = 2; header_hash = Some (replicate 32 2); commit_hash = Some (replicate 32 6); answer = Some block_0 }
reply_at_height_2 = refl
