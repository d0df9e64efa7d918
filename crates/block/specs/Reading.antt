-- Reading a block from left to right, one step for each private function of the reader. No public contract cites this.
use Rattle.std.specs.Prelude.{◌≡◌, ℕ, zero, suc, List, [], ◌∷◌, ◌++◌, length, take, drop, Result, Ok, Err, nat_lt, ◌==◌, if◌then◌else◌}
use Rattle.std.specs.List.{starts_with}
use Rattle.std.specs.Prelude.{nat_eq}
use Rattle.byteorder.specs.Endian.{big_number}
use Rattle.block.specs.declared.block.Block as versioned
use Rattle.transaction.specs.declared.block_version.BlockVersion.{BlockVersion}
use Rattle.transaction.specs.declared.block_version.BlockVersion.TheVariants.{V1, V2}
use Rattle.block.specs.declared.block.Header.{Header}
use Rattle.block.specs.declared.block.Previous.{Previous}
use Rattle.block.specs.declared.block.Previous.TheVariants.{Empty, Hash}
use Rattle.values.specs.Hash.{hash_bytes}
use Rattle.transaction.specs.Limits.{max_tx_bytes}
use Rattle.block.specs.Limits.{max_txs}
use Rattle.block.specs.declared.fault.BlockFault.{BlockFault}
use Rattle.block.specs.declared.fault.BlockFault.TheVariants.{BadMagic, Truncated, PreviousLength, TooManyTxs, TxTooLong, TrailingBytes, Memory}
use Rattle.block.specs.first_version.Grammar.{Block, magic}
use Rattle.block.specs.Grammar.{magic_of, with_version}

-- a value and the bytes after it
abbrev pub Read : Type 0 → Type 0
Read A = Result (A × List ℕ) BlockFault

infixl 10 ◌>>=◌
abbrev pub ◌>>=◌ : {A B : Type 0} → Result A BlockFault → (A → Result B BlockFault) → Result B BlockFault
(Ok x) >>= f = f x
(Err e) >>= f = Err e

-- the function returned, seen by view, what reading gives; Memory may replace anything
abbrev pub Fails : {Y : Type 0} → BlockFault → Result Y BlockFault → Type 0
Fails BadMagic read = read ≡ Err BadMagic
Fails Truncated read = read ≡ Err Truncated
Fails PreviousLength read = read ≡ Err PreviousLength
Fails TooManyTxs read = read ≡ Err TooManyTxs
Fails TxTooLong read = read ≡ Err TxTooLong
Fails TrailingBytes read = read ≡ Err TrailingBytes
Fails Memory read = Unit {0}

abbrev pub Gives : {X Y : Type 0} → (X → Y) → Result X BlockFault → Result Y BlockFault → Type 0
Gives view (Ok x) read = read ≡ Ok (view x)
Gives view (Err e) read = Fails e read

abbrev pub bytes_at : ℕ → List ℕ → Read (List ℕ)
bytes_at n bytes = if nat_lt (length bytes) n then Err Truncated else Ok (take n bytes, drop n bytes)

abbrev pub number_at : ℕ → List ℕ → Read ℕ
number_at n bytes = if nat_lt (length bytes) n then Err Truncated else Ok (big_number n bytes, drop n bytes)

abbrev pub magic_at : List ℕ → Result (List ℕ) BlockFault
magic_at bytes = if starts_with nat_eq bytes magic then Ok (drop 4 bytes) else Err BadMagic

unfoldable pub previous_at : List ℕ → Read Previous
previous_at [] = Err Truncated
previous_at (len ∷ bytes) =
    if len == 0 then Ok (Empty, bytes)
    else if len == hash_bytes then (bytes_at hash_bytes bytes >>= λ h. Ok (Hash h.0, h.1))
    else Err PreviousLength

unfoldable pub header_at : List ℕ → Read Header
header_at bytes = do
  rest ← magic_at bytes
  number ← number_at 8 rest
  previous ← previous_at number.1
  data_hash ← bytes_at hash_bytes previous.1
  Ok (record { number = number.0; previous = previous.0; data_hash = data_hash.0 }, data_hash.1)

unfoldable pub count_at : List ℕ → Read ℕ
count_at bytes = do
  n ← number_at 4 bytes
  if nat_lt max_txs n.0 then Err TooManyTxs else Ok n

unfoldable pub tx_at : List ℕ → Read (List ℕ)
tx_at bytes = do
  len ← number_at 4 bytes
  if nat_lt max_tx_bytes len.0 then Err TxTooLong else bytes_at len.0 len.1

unfoldable pub txs_at : ℕ → List ℕ → Read (List (List ℕ))
txs_at zero bytes = Ok ([], bytes)
txs_at (suc n) bytes = do
  first ← tx_at bytes
  others ← txs_at n first.1
  Ok (first.0 ∷ others.0, others.1)

-- all of the bytes
unfoldable pub block_at : List ℕ → Result Block BlockFault
block_at bytes = do
  header ← header_at bytes
  count ← count_at header.1
  txs ← txs_at count.0 count.1
  if length txs.1 == 0 then Ok (record { header = header.0; txs = txs.0 }) else Err TrailingBytes

-- ---- either version

unfoldable pub version_at : List ℕ → Read BlockVersion
version_at bytes =
    if starts_with nat_eq bytes (magic_of V1) then Ok (V1, drop 4 bytes)
    else if starts_with nat_eq bytes (magic_of V2) then Ok (V2, drop 4 bytes)
    else Err BadMagic

-- after its magic a block is read as one of version 1
unfoldable pub versioned_at : List ℕ → Result versioned.Block BlockFault
versioned_at bytes = do
  version ← version_at bytes
  contents ← block_at (magic ++ version.1)
  Ok (with_version version.0 contents)
