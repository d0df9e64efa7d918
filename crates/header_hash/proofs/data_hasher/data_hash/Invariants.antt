use Rattle.std.proofs.Common.{take}
use Rattle.header_hash.specs.DataHash.{Holds}
use Rattle.header_hash.specs.Hashes.{joined}
use Rattle.header_hash.proofs.data_hasher.data_hash.Given as goal

abbrev pub invariant-loop-tx : goal.invariant-loop-tx
invariant-loop-tx l = Holds l.hasher (joined (take l.tx-index l.txs))
