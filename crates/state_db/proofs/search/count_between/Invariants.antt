use Rattle.std.proofs.Common.{◌-◌, ◌≤◌, length}
use Rattle.state_db.specs.Search.{leading}
use Rattle.state_db.proofs.search.count_between.Given as goal

abbrev pub invariant-loop-low : goal.invariant-loop-low
invariant-loop-low g l = record {
  low : l.low ≤ leading (g.T.Ordered.is_below l.wanted) l.items;
  high : leading (g.T.Ordered.is_below l.wanted) l.items ≤ l.high;
  bound : l.high ≤ length l.items;
}

abbrev pub decreases-loop-low : goal.decreases-loop-low
decreases-loop-low g l = l.high - l.low
