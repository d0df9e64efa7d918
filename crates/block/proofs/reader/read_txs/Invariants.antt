use Rattle.std.proofs.Common.{◌≡◌, ◌-◌}
use Rattle.block.specs.Reading.{txs_at}
use Rattle.block.proofs.Transactions.{with_front}
use Rattle.block.proofs.reader.read_txs.Given as goal

-- what was read before, and what is still read, is what is read of all
abbrev pub invariant-loop : goal.invariant-loop
invariant-loop l = with_front l.txs (txs_at (l.count - l.counter) l.rest) ≡ txs_at l.count l.bytes
