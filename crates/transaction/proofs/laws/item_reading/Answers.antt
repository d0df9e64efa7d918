use Rattle.transaction.proofs.UpdateLaws.{item_taken, item_again}
use Rattle.transaction.proofs.laws.item_reading.Goals as goal

pub returns : goal.returns
returns c = λ version bytes i fits. (item_taken version bytes i fits, item_again version bytes i fits)
