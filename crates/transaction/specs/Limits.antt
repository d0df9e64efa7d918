-- The limits of transactions.
use Rattle.std.specs.Prelude.{ℕ}

-- the bytes of an id
abbrev pub id_bytes : ℕ
id_bytes = 64

-- the most endorsements of a transaction
abbrev pub max_endorsements : ℕ
max_endorsements = 64

-- the most bytes of a transaction, and of its body and its signed part
abbrev pub max_tx_bytes : ℕ
max_tx_bytes = 1048576
