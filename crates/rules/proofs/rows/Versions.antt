-- Versions of blocks and worlds: behind a block of version 2 none of version 1 is linked.
use Rattle.std.proofs.Common.{◌≡◌, ℕ, List, [], ◌∷◌, ◌++◌, refl, arith}
use Rattle.std.specs.Prelude.{replicate}
use Rattle.std.specs.FinMap.{empty}
use Rattle.transaction.specs.declared.block_version.BlockVersion.{BlockVersion}
use Rattle.transaction.specs.declared.block_version.BlockVersion.TheVariants.{V1, V2}
use Rattle.block.specs.declared.block.Block.{Block}
use Rattle.block.specs.declared.block.Previous.TheVariants.{Hash}
use Rattle.header_hash.specs.Hashes.{data_hash_of}
use Rattle.rules.specs.declared.answer.Refused.TheVariants.{WrongNumber, WrongDataHash, OldVersion}
use Rattle.rules.specs.declared.committed.CommittedBlock.{CommittedBlock}
use Rattle.rules.specs.World.{World, empty_world, last_version}
use Rattle.rules.specs.Linked.{IsLinked, IsUnlinked}

-- a block as it is kept, of this version and header hash
abbrev kept : BlockVersion → List ℕ → CommittedBlock
kept version hash = record { bytes = []; header_hash = hash; commit_hash = hash; version = version; flags = [] }

abbrev hash_0 : List ℕ
hash_0 = replicate 32 1

abbrev hash_1 : List ℕ
hash_1 = replicate 32 2

abbrev behind : List CommittedBlock → World
behind blocks = record { state = empty; history = empty; first_uses = empty; definitions = empty; blocks = blocks }

-- ---- the version of a world

version_at_height_0 : last_version (empty_world empty) ≡ V1
version_at_height_0 = refl

version_behind_1 : last_version (behind (kept V1 hash_0 ∷ [])) ≡ V1
version_behind_1 = refl

version_behind_2 : last_version (behind (kept V1 hash_0 ∷ kept V2 hash_1 ∷ [])) ≡ V2
version_behind_2 = refl

-- ---- what is linked, behind blocks 0 of version 1 and 1 of version 2

abbrev world_2 : World
world_2 = behind (kept V1 hash_0 ∷ kept V2 hash_1 ∷ [])

abbrev next : BlockVersion → ℕ → List ℕ → Block
next version n data_hash = record { version = version; header = record { number = n; previous = Hash hash_1; data_hash = data_hash }; txs = [] }

old_version : IsUnlinked world_2 (next V1 2 (data_hash_of [])) OldVersion
old_version = (refl, refl, refl, refl)

-- the data hash goes before the version, and the number before both
data_hash_goes_before : (data_hash : List ℕ) → (data_hash ≡ data_hash_of [] → ⊥) → IsUnlinked world_2 (next V1 2 data_hash) WrongDataHash
data_hash_goes_before data_hash wrong = (refl, refl, wrong)

number_goes_before : IsUnlinked world_2 (next V1 3 (data_hash_of [])) (WrongNumber 2 3)
number_goes_before = ((λ e. absurd (omega arith)), refl, refl)

version_2_is_next : IsLinked world_2 (next V2 2 (data_hash_of []))
version_2_is_next = record { number = refl; previous = refl; data_hash = refl; version = refl }

-- over version 1 either version is next
either_is_next : (version : BlockVersion) → IsLinked (behind (kept V1 hash_1 ∷ [])) (next version 1 (data_hash_of []))
either_is_next V1 = record { number = refl; previous = refl; data_hash = refl; version = refl }
either_is_next V2 = record { number = refl; previous = refl; data_hash = refl; version = refl }
