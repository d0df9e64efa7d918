use Rattle.std.proofs.Common.{◌-◌, length}
use Rattle.key_chains.proofs.chains.passed.Given as goal

abbrev pub decreases-loop-at : goal.decreases-loop-at
decreases-loop-at l = length l.numbers - l.at
