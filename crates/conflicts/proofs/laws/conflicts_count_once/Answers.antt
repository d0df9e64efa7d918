use Rattle.conflicts.proofs.Sums.{once}
use Rattle.conflicts.proofs.laws.conflicts_count_once.Goals as goal

pub returns : goal.returns
returns c = once
