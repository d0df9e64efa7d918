-- The block grammar: which bytes encode which block.
use Rattle.std.specs.Prelude.{◌≡◌, ℕ, ◌≤◌, List, [], ◌∷◌, ◌++◌, length}
use Rattle.std.specs.List.{AllByRecursion}
use Rattle.byteorder.specs.Endian.{big_bytes}
use Rattle.transaction.specs.declared.block_version.BlockVersion.{BlockVersion}
use Rattle.transaction.specs.declared.block_version.BlockVersion.TheVariants.{V1, V2}
use Rattle.block.specs.declared.block.Block.{Block}
use Rattle.block.specs.declared.block.Header.{Header}
use Rattle.block.specs.Limits.{max_txs}
use Rattle.block.specs.first_version.Grammar as first
-- within the limits of either version
pub use Rattle.block.specs.first_version.Grammar.{IsHeader, IsTx}

-- `FBK1` or `FBK2`
abbrev pub magic_of : BlockVersion → List ℕ
magic_of V1 = 0x46 ∷ 0x42 ∷ 0x4b ∷ 0x31 ∷ []
magic_of V2 = 0x46 ∷ 0x42 ∷ 0x4b ∷ 0x32 ∷ []

-- number, previous hash, data hash; numbers have the highest byte first
abbrev pub header_fields : Header → List ℕ
header_fields h = big_bytes 8 h.number ++ first.previous_bytes h.previous ++ h.data_hash

-- the magic of its version, header, count and transactions
abbrev pub bytes_of : Block → List ℕ
bytes_of b = magic_of b.version ++ (header_fields b.header ++ first.txs_bytes (length b.txs) b.txs)

-- The bytes encode the block, each field within its limits, and nothing follows them.
pub record Spells (bytes : List ℕ) (b : Block) : Type 0 where
  pub header : first.IsHeader b.header
  pub count : length b.txs ≤ max_txs
  pub each : AllByRecursion first.IsTx b.txs
  pub fields : bytes ≡ bytes_of b

-- ---- what follows the magic

abbrev pub contents_of : Block → first.Block
contents_of b = record { header = b.header; txs = b.txs }

abbrev pub with_version : BlockVersion → first.Block → Block
with_version version contents = record { version = version; header = contents.header; txs = contents.txs }
