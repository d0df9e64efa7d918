-- How a block is related to the accepted block of its number.
use Rattle.std.specs.Prelude.{◌≡◌, ◌≢◌, ℕ, zero, suc, false, Option, Some, None, option_map, unwrap_or}
use Rattle.transaction.specs.declared.block_version.BlockVersion.{BlockVersion}
use Rattle.transaction.specs.declared.block_version.BlockVersion.TheVariants.{V1}
use Rattle.block.specs.declared.block.Block.{Block}
use Rattle.block.specs.declared.block.Previous.{Previous}
use Rattle.block.specs.Grammar.{bytes_of}
use Rattle.header_hash.specs.Hashes.{header_hash_of}
use Rattle.rules.specs.declared.committed.CommittedBlock.{CommittedBlock}
use Rattle.rules.specs.Answers.{block_answer}
use Rattle.rules.specs.Linked.{HasDataHash, is_older}
use Rattle.rules.specs.World.{World, previous_from}
use Rattle.known_blocks.specs.declared.known.Known.{Known}
use Rattle.known_blocks.specs.declared.known.KnownAs.{KnownAs}
use Rattle.known_blocks.specs.declared.known.KnownAs.TheVariants.{Same, Twin, Fork, Other}

-- the accepted block before this number, none before 0
abbrev pub block_before : World → ℕ → Option CommittedBlock
block_before w zero = None
block_before w (suc n) = block_answer w n

-- what a block has as its previous hash whose predecessor is this one
abbrev pub previous_after : Option CommittedBlock → Previous
previous_after before = previous_from (option_map (λ c. c.header_hash) before)

-- the version of this block, and 1 if there is none
abbrev pub version_of : Option CommittedBlock → BlockVersion
version_of before = unwrap_or (option_map (λ c. c.version) before) V1

-- It is linked to the accepted block before its number, as if it were the next one: by its previous hash, which is empty
-- in block 0, with the data hash of its transactions, and with a version no older.
pub record IsLinkedInPlace (w : World) (b : Block) : Type 0 where
  pub previous : b.header.previous ≡ previous_after (block_before w b.header.number)
  pub data_hash : HasDataHash b
  pub version : is_older b.version (version_of (block_before w b.header.number)) ≡ false

-- c is the accepted block of b's number: b is that block byte for byte; or it would have been accepted in its place, with
-- the same header hash or another one; or it would not.
abbrev pub IsKnownAs : World → CommittedBlock → Block → KnownAs → Type 0
IsKnownAs w c b Same = c.bytes ≡ bytes_of b
IsKnownAs w c b Twin = (c.bytes ≢ bytes_of b) × IsLinkedInPlace w b × (header_hash_of b.header ≡ c.header_hash)
IsKnownAs w c b Fork = (c.bytes ≢ bytes_of b) × IsLinkedInPlace w b × (header_hash_of b.header ≢ c.header_hash)
IsKnownAs w c b Other = (c.bytes ≢ bytes_of b) × (¬ IsLinkedInPlace w b)

-- what is said of a block b beside the accepted block c of its number
pub record IsBeside (w : World) (c : CommittedBlock) (b : Block) (known : Known) : Type 0 where
  pub number : known.number ≡ b.header.number
  pub how : IsKnownAs w c b known.how
  pub accepted : known.accepted ≡ c.header_hash
  pub own : known.own ≡ header_hash_of b.header

-- nothing is said of a block whose number was not accepted
abbrev pub IsSaid : World → Block → Option Known → Type 0
IsSaid w b None = block_answer w b.header.number ≡ None
IsSaid w b (Some known) = (c : CommittedBlock) × (block_answer w b.header.number ≡ Some c) × IsBeside w c b known
