-- The block grammar of version 1: which bytes encode which block. It never changes.
use Rattle.std.specs.Prelude.{◌≡◌, ℕ, ◌^◌, ◌<◌, ◌≤◌, List, [], ◌∷◌, ◌++◌, length}
use Rattle.std.specs.List.{flat_map, AllByRecursion}
use Rattle.byteorder.specs.Endian.{big_bytes}
use Rattle.block.specs.declared.block.Header.{Header}
use Rattle.block.specs.declared.block.Previous.{Previous}
use Rattle.block.specs.declared.block.Previous.TheVariants.{Empty, Hash}
use Rattle.values.specs.Hash.{hash_bytes, IsHash}
use Rattle.transaction.specs.Limits.{max_tx_bytes}
use Rattle.block.specs.Limits.{max_txs}

pub record Block : Type 0 where
  pub header : Header
  pub txs : List (List ℕ)

-- `FBK1`
abbrev pub magic : List ℕ
magic = 0x46 ∷ 0x42 ∷ 0x4b ∷ 0x31 ∷ []

-- a byte of length, and that many bytes
abbrev pub previous_bytes : Previous → List ℕ
previous_bytes Empty = 0 ∷ []
previous_bytes (Hash h) = hash_bytes ∷ h

-- magic, number, previous hash, data hash; numbers have the highest byte first
abbrev pub header_bytes : Header → List ℕ
header_bytes h = magic ++ big_bytes 8 h.number ++ previous_bytes h.previous ++ h.data_hash

-- four bytes of length, and that many bytes
abbrev pub tx_bytes : List ℕ → List ℕ
tx_bytes tx = big_bytes 4 (length tx) ++ tx

-- four bytes of count, and that many transactions
abbrev pub txs_bytes : ℕ → List (List ℕ) → List ℕ
txs_bytes count txs = big_bytes 4 count ++ flat_map tx_bytes txs

abbrev pub IsPrevious : Previous → Type 0
IsPrevious Empty = Unit {0}
IsPrevious (Hash h) = IsHash h

pub record IsHeader (h : Header) : Type 0 where
  pub number : h.number < 2 ^ 64
  pub previous : IsPrevious h.previous
  pub data_hash : IsHash h.data_hash

abbrev pub IsTx : List ℕ → Type 0
IsTx tx = length tx ≤ max_tx_bytes

-- The bytes encode the block: header, count and transactions, each within its limits, and nothing after them.
pub record Spells (bytes : List ℕ) (b : Block) : Type 0 where
  pub header : IsHeader b.header
  pub count : length b.txs ≤ max_txs
  pub each : AllByRecursion IsTx b.txs
  pub fields : bytes ≡ header_bytes b.header ++ txs_bytes (length b.txs) b.txs
