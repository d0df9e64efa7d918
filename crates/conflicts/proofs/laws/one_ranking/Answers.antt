use Rattle.conflicts.proofs.Unique.{one_ranking}
use Rattle.conflicts.proofs.laws.one_ranking.Goals as goal

pub returns : goal.returns
returns c = one_ranking
