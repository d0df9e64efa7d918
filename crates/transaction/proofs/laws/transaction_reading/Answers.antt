use Rattle.transaction.proofs.Answered.{tx_law}
use Rattle.transaction.proofs.laws.transaction_reading.Goals as goal

pub returns : goal.returns
returns c = λ bytes tx fits. ((tx_law bytes fits).taken tx, (tx_law bytes fits).again tx)
