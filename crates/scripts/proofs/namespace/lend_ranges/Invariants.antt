use Rattle.std.proofs.Common.{◌≡◌, take}
use Rattle.scripts.proofs.namespace.lend_ranges.Given as goal

abbrev pub invariant-loop-range : goal.invariant-loop-range
invariant-loop-range l = l.lent ≡ take l.range-index l.ranges
