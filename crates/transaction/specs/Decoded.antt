-- The transaction that bytes spell, as a function: the grammar's, as the law `transaction_reading` says.
use Rattle.std.specs.Prelude.{ℕ, List, Option}
use Rattle.transaction.specs.declared.transaction.Tx.{Tx}
use Rattle.transaction.specs.Reading.{whole_tx_at}

-- the transaction, or none where the bytes spell none
abbrev pub tx_of : List ℕ → Option Tx
tx_of bytes = whole_tx_at bytes
