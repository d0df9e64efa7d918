-- What is read after each field, as steps with names.
use Rattle.std.proofs.Common.{ℕ, cond, eqb, ltb, List, ◌∷◌, length, Result, Ok, Err}
use Rattle.block.specs.first_version.Grammar.{Block}
use Rattle.block.specs.declared.block.Header.{Header}
use Rattle.block.specs.declared.block.Previous.{Previous}
use Rattle.block.specs.declared.block.Previous.TheVariants.{Hash}
use Rattle.values.specs.Hash.{hash_bytes}
use Rattle.transaction.specs.Limits.{max_tx_bytes}
use Rattle.block.specs.Limits.{max_txs}
use Rattle.block.specs.declared.fault.BlockFault.{BlockFault}
use Rattle.block.specs.declared.fault.BlockFault.TheVariants.{PreviousLength, TooManyTxs, TxTooLong, TrailingBytes}
use Rattle.block.specs.Reading.{◌>>=◌, Read, number_at, bytes_at, previous_at, count_at, txs_at}

abbrev pub Txs : Type 0
Txs = List (List ℕ)

-- of a previous hash
abbrev pub as_hash : List ℕ × List ℕ → Read Previous
as_hash h = Ok (Hash h.0, h.1)

abbrev pub hash_or_fault : ℕ → List ℕ → Read Previous
hash_or_fault len bytes = cond (eqb len hash_bytes) (bytes_at hash_bytes bytes >>= as_hash) (Err PreviousLength)

-- of a header
abbrev pub as_header : ℕ → Previous → List ℕ × List ℕ → Read Header
as_header n p d = Ok (record { number = n; previous = p; data_hash = d.0 }, d.1)

abbrev pub after_previous : ℕ → Previous × List ℕ → Read Header
after_previous n p = bytes_at hash_bytes p.1 >>= as_header n p.0

abbrev pub after_number : ℕ × List ℕ → Read Header
after_number n = previous_at n.1 >>= after_previous n.0

abbrev pub after_magic : List ℕ → Read Header
after_magic bytes = number_at 8 bytes >>= after_number

-- of a count and a transaction
abbrev pub count_or_fault : ℕ × List ℕ → Read ℕ
count_or_fault n = cond (ltb max_txs n.0) (Err TooManyTxs) (Ok n)

abbrev pub tx_or_fault : ℕ × List ℕ → Read (List ℕ)
tx_or_fault len = cond (ltb max_tx_bytes len.0) (Err TxTooLong) (bytes_at len.0 len.1)

-- of transactions
abbrev pub in_front : List ℕ → Txs × List ℕ → Read Txs
in_front tx others = Ok (tx ∷ others.0, others.1)

abbrev pub after_tx : ℕ → List ℕ × List ℕ → Read Txs
after_tx n first = txs_at n first.1 >>= in_front first.0

-- of a block
abbrev pub ended : Header → Txs × List ℕ → Result Block BlockFault
ended h txs = cond (eqb (length txs.1) 0) (Ok (record { header = h; txs = txs.0 })) (Err TrailingBytes)

abbrev pub after_count : Header → ℕ × List ℕ → Result Block BlockFault
after_count h n = txs_at n.0 n.1 >>= ended h

abbrev pub after_header : Header × List ℕ → Result Block BlockFault
after_header h = count_at h.1 >>= after_count h.0
