-- Which block is the next one of a world, and why another isn't.
use Rattle.std.specs.Prelude.{◌≡◌, ◌≢◌, ℕ, Bool, true, false, List, length}
use Rattle.transaction.specs.declared.block_version.BlockVersion.{BlockVersion}
use Rattle.transaction.specs.declared.block_version.BlockVersion.TheVariants.{V1, V2}
use Rattle.block.specs.declared.block.Block.{Block}
use Rattle.block.specs.Grammar.{Spells}
use Rattle.block.specs.Faults.{HasFault}
use Rattle.header_hash.specs.Hashes.{header_hash_of, data_hash_of}
use Rattle.rules.specs.declared.answer.Refused.{Refused}
use Rattle.rules.specs.declared.answer.Refused.TheVariants.{Malformed, WrongNumber, WrongPrevious, WrongDataHash, OldVersion, Memory}
use Rattle.rules.specs.declared.delta.Delta.{Delta}
use Rattle.rules.specs.World.{World, height_of, last_header_hash, last_version, previous_from}

abbrev pub HasNumber : World → Block → Type 0
HasNumber w b = b.header.number ≡ height_of w

abbrev pub HasPrevious : World → Block → Type 0
HasPrevious w b = b.header.previous ≡ previous_from (last_header_hash w)

abbrev pub HasDataHash : Block → Type 0
HasDataHash b = b.header.data_hash ≡ data_hash_of b.txs

abbrev pub is_older : BlockVersion → BlockVersion → Bool
is_older V1 V2 = true
is_older _ _ = false

abbrev pub HasVersion : World → Block → Type 0
HasVersion w b = is_older b.version (last_version w) ≡ false

-- the block's number is the height, its previous hash the last header hash, its data hash that of its transactions, and its
-- version no older than the last block's
pub record IsLinked (w : World) (b : Block) : Type 0 where
  pub number : HasNumber w b
  pub previous : HasPrevious w b
  pub data_hash : HasDataHash b
  pub version : HasVersion w b

-- Why a block isn't linked: the first of the four that doesn't hold.
abbrev pub IsUnlinked : World → Block → Refused → Type 0
IsUnlinked w b (WrongNumber want got) = (b.header.number ≢ height_of w) × (want ≡ height_of w) × (got ≡ b.header.number)
IsUnlinked w b WrongPrevious = HasNumber w b × (b.header.previous ≢ previous_from (last_header_hash w))
IsUnlinked w b WrongDataHash = HasNumber w b × HasPrevious w b × (b.header.data_hash ≢ data_hash_of b.txs)
IsUnlinked w b OldVersion = HasNumber w b × HasPrevious w b × HasDataHash b × (is_older b.version (last_version w) ≡ true)
IsUnlinked w b (Malformed fault) = ⊥
IsUnlinked w b Memory = ⊥

-- Why bytes aren't taken: they spell no block, or one that isn't linked.
abbrev pub IsRefused : World → List ℕ → Refused → Type 0
IsRefused w bytes (Malformed fault) = HasFault bytes fault
IsRefused w bytes (WrongNumber want got) = (b : Block) × Spells bytes b × IsUnlinked w b (WrongNumber want got)
IsRefused w bytes WrongPrevious = (b : Block) × Spells bytes b × IsUnlinked w b WrongPrevious
IsRefused w bytes WrongDataHash = (b : Block) × Spells bytes b × IsUnlinked w b WrongDataHash
IsRefused w bytes OldVersion = (b : Block) × Spells bytes b × IsUnlinked w b OldVersion
-- want of memory may come in the place of any answer
IsRefused w bytes Memory = Unit {0}

-- ---- deltas

-- The bytes that the delta keeps spell a block that is linked to the world, and it has that block's header hash and version
-- and one flag for each of its transactions.
pub record IsLinkedDelta (w : World) (d : Delta) : Type 0 where
  pub block : Block
  pub spelled : Spells d.block.bytes block
  pub linked : IsLinked w block
  pub header_hash : d.block.header_hash ≡ header_hash_of block.header
  pub version : d.block.version ≡ block.version
  pub flags : length d.block.flags ≡ length block.txs
