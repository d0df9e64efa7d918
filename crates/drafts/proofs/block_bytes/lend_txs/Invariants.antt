use Rattle.std.proofs.Common.{◌≡◌, take}
use Rattle.drafts.proofs.block_bytes.lend_txs.Given as goal

abbrev pub invariant-loop-tx : goal.invariant-loop-tx
invariant-loop-tx l = l.lent ≡ take l.tx-index l.txs
