use Rattle.std.proofs.Common.{◌-◌, length}
use Rattle.state_db.proofs.looked_up.passed.Given as goal

abbrev pub decreases-loop-at : goal.decreases-loop-at
decreases-loop-at l = length l.keys - l.at
