-- The fault of bytes that encode no block of version 1, which never changes: that of the first field, from left to
-- right, that can't be read.
use Rattle.std.specs.Prelude.{◌≡◌, ◌≢◌, ℕ, ◌^◌, ◌<◌, ◌≤◌, List, [], ◌∷◌, ◌++◌, length}
use Rattle.std.specs.List.{AllByRecursion}
use Rattle.byteorder.specs.Endian.{big_bytes}
use Rattle.block.specs.declared.block.Header.{Header}
use Rattle.block.specs.declared.block.Previous.{Previous}
use Rattle.values.specs.Hash.{hash_bytes}
use Rattle.transaction.specs.Limits.{max_tx_bytes}
use Rattle.block.specs.Limits.{max_txs}
use Rattle.block.specs.declared.fault.BlockFault.{BlockFault}
use Rattle.block.specs.declared.fault.BlockFault.TheVariants.{BadMagic, Truncated, PreviousLength, TooManyTxs, TxTooLong, TrailingBytes, Memory}
use Rattle.block.specs.first_version.Grammar.{Block, magic, previous_bytes, header_bytes, txs_bytes, IsPrevious, IsHeader, IsTx, Spells}

-- A field after the magic, with what was read before it.
pub data Field : Type 0 where
  number : Field
  previous_length : ℕ → Field
  previous_hash : ℕ → Field
  data_hash : ℕ → Previous → Field
  count : Header → Field
  tx_length : Header → ℕ → List (List ℕ) → Field
  tx : Header → ℕ → List (List ℕ) → ℕ → Field

-- the bytes before a field
abbrev pub before : Field → List ℕ
before number = magic
before (previous_length n) = magic ++ big_bytes 8 n
before (previous_hash n) = magic ++ big_bytes 8 n ++ hash_bytes ∷ []
before (data_hash n p) = magic ++ big_bytes 8 n ++ previous_bytes p
before (count h) = header_bytes h
before (tx_length h n txs) = header_bytes h ++ txs_bytes n txs
before (tx h n txs len) = header_bytes h ++ txs_bytes n txs ++ big_bytes 4 len

-- how many bytes it has
abbrev pub size : Field → ℕ
size number = 8
size (previous_length n) = 1
size (previous_hash n) = hash_bytes
size (data_hash n p) = hash_bytes
size (count h) = 4
size (tx_length h n txs) = 4
size (tx h n txs len) = len

-- what could be read before it is within its limits, and a field is due
abbrev pub IsReached : Field → Type 0
IsReached number = Unit {0}
IsReached (previous_length n) = n < 2 ^ 64
IsReached (previous_hash n) = n < 2 ^ 64
IsReached (data_hash n p) = (n < 2 ^ 64) × IsPrevious p
IsReached (count h) = IsHeader h
IsReached (tx_length h n txs) = IsHeader h × (n ≤ max_txs) × (length txs < n) × AllByRecursion IsTx txs
IsReached (tx h n txs len) = IsHeader h × (n ≤ max_txs) × (length txs < n) × AllByRecursion IsTx txs × (len ≤ max_tx_bytes)

-- the bytes have this field, with rest from its first byte on
abbrev pub Reaches : List ℕ → Field → List ℕ → Type 0
Reaches bytes field rest = IsReached field × (bytes ≡ before field ++ rest)

abbrev pub HasFault : List ℕ → BlockFault → Type 0
-- the bytes don't begin with the magic
HasFault bytes BadMagic = (rest : List ℕ) → bytes ≢ magic ++ rest
-- fewer bytes remain than the field has
HasFault bytes Truncated = (field : Field) × (rest : List ℕ) × Reaches bytes field rest × (length rest < size field)
-- the length of the previous hash is neither 0 nor that of a hash
HasFault bytes PreviousLength = (n : ℕ) × (len : ℕ) × (rest : List ℕ) × Reaches bytes (previous_length n) (len ∷ rest) × (len ≢ 0) × (len ≢ hash_bytes)
-- the count is over its limit, no matter what follows
HasFault bytes TooManyTxs = (h : Header) × (n : ℕ) × (rest : List ℕ) × Reaches bytes (count h) (big_bytes 4 n ++ rest) × (n < 2 ^ 32) × (max_txs < n)
-- a transaction's length is over its limit, no matter what follows
HasFault bytes TxTooLong =
    (h : Header) × (n : ℕ) × (txs : List (List ℕ)) × (len : ℕ) × (rest : List ℕ) × Reaches bytes (tx_length h n txs) (big_bytes 4 len ++ rest) × (len < 2 ^ 32) × (max_tx_bytes < len)
-- bytes remain after a block
HasFault bytes TrailingBytes = (b : Block) × (front : List ℕ) × (rest : List ℕ) × Spells front b × (bytes ≡ front ++ rest) × (0 < length rest)
HasFault bytes Memory = ⊥
