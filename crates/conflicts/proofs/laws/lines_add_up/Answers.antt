use Rattle.conflicts.proofs.Spread.{lines_add_up}
use Rattle.conflicts.proofs.laws.lines_add_up.Goals as goal

pub returns : goal.returns
returns c = lines_add_up
