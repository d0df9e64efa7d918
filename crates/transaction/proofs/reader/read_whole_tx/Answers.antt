use Rattle.std.proofs.Common.{arith}
use Rattle.transaction.proofs.Answered.{tx_law}
use Rattle.transaction.proofs.reader.read_whole_tx.Goals as goal

pub new-requires : goal.new-requires
new-requires c = (tx_law c.args.bytes.now (λ i. omega (arith, c.type_inv.bytes i))).taken c.in-Ok.tx c.in-Ok.ensures
