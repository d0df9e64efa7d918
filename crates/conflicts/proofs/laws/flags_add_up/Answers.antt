use Rattle.conflicts.proofs.Sums.{all_of}
use Rattle.conflicts.proofs.laws.flags_add_up.Goals as goal

pub returns : goal.returns
returns c = all_of
