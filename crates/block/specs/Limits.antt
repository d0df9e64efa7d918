-- The limits of blocks, and whether a block is within them.
use Rattle.std.specs.Prelude.{ℕ, ◌&&◌, nat_le, Bool, List, length}
use Rattle.std.specs.List.{list_all}
use Rattle.transaction.specs.Limits.{max_tx_bytes}

-- the most transactions of a block
abbrev pub max_txs : ℕ
max_txs = 4096

abbrev pub is_short : List ℕ → Bool
is_short tx = nat_le (length tx) max_tx_bytes

abbrev pub are_within_limits : List (List ℕ) → Bool
are_within_limits txs = nat_le (length txs) max_txs && list_all is_short txs
