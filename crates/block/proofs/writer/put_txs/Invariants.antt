use Rattle.std.proofs.Common.{◌≡◌, ◌++◌, length, take}
use Rattle.std.specs.List.{flat_map}
use Rattle.byteorder.specs.Endian.{big_bytes}
use Rattle.block.specs.first_version.Grammar.{tx_bytes}
use Rattle.block.proofs.writer.put_txs.Given as goal

abbrev pub invariant-loop-tx : goal.invariant-loop-tx
invariant-loop-tx l = l.out.items ≡ l.fn.out.items ++ (big_bytes 4 (length l.txs) ++ flat_map tx_bytes (take l.tx-index l.txs))
