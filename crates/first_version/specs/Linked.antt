-- Which block is the next one of a world, and why another isn't.
use Rattle.std.specs.Prelude.{◌≡◌, ◌≢◌, ℕ, List}
use Rattle.block.specs.first_version.Grammar.{Block, Spells}
use Rattle.block.specs.first_version.Faults.{HasFault}
use Rattle.header_hash.specs.Hashes.{data_hash_of}
use Rattle.rules.specs.declared.answer.Refused.{Refused}
use Rattle.rules.specs.declared.answer.Refused.TheVariants.{Malformed, WrongNumber, WrongPrevious, WrongDataHash, OldVersion, Memory}
use Rattle.rules.specs.World.{previous_from}
use Rattle.first_version.specs.World.{World, height_of, last_header_hash}

abbrev pub HasNumber : World → Block → Type 0
HasNumber w b = b.header.number ≡ height_of w

abbrev pub HasPrevious : World → Block → Type 0
HasPrevious w b = b.header.previous ≡ previous_from (last_header_hash w)

abbrev pub HasDataHash : Block → Type 0
HasDataHash b = b.header.data_hash ≡ data_hash_of b.txs

-- the block's number is the height, its previous hash the last header hash, its data hash that of its transactions
pub record IsLinked (w : World) (b : Block) : Type 0 where
  pub number : HasNumber w b
  pub previous : HasPrevious w b
  pub data_hash : HasDataHash b

-- Why a block isn't linked: the first of the three that doesn't hold.
abbrev pub IsUnlinked : World → Block → Refused → Type 0
IsUnlinked w b (WrongNumber want got) = (b.header.number ≢ height_of w) × (want ≡ height_of w) × (got ≡ b.header.number)
IsUnlinked w b WrongPrevious = HasNumber w b × (b.header.previous ≢ previous_from (last_header_hash w))
IsUnlinked w b WrongDataHash = HasNumber w b × HasPrevious w b × (b.header.data_hash ≢ data_hash_of b.txs)
IsUnlinked w b OldVersion = ⊥
IsUnlinked w b (Malformed fault) = ⊥
IsUnlinked w b Memory = ⊥

-- Why bytes are rejected: they encode no block, or one that isn't linked.
abbrev pub IsRefused : World → List ℕ → Refused → Type 0
IsRefused w bytes (Malformed fault) = HasFault bytes fault
IsRefused w bytes (WrongNumber want got) = (b : Block) × Spells bytes b × IsUnlinked w b (WrongNumber want got)
IsRefused w bytes WrongPrevious = (b : Block) × Spells bytes b × IsUnlinked w b WrongPrevious
IsRefused w bytes WrongDataHash = (b : Block) × Spells bytes b × IsUnlinked w b WrongDataHash
IsRefused w bytes OldVersion = ⊥
-- any answer may be replaced by out of memory
IsRefused w bytes Memory = Unit {0}
