use Rattle.conflicts.proofs.Spread.{blamed_once}
use Rattle.conflicts.proofs.laws.transactions_count_once.Goals as goal

pub returns : goal.returns
returns c = blamed_once
