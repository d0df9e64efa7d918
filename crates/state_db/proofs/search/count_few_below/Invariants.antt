use Rattle.std.proofs.Common.{◌-◌, ◌≤◌, length}
use Rattle.state_db.specs.Search.{leading}
use Rattle.state_db.proofs.search.count_few_below.Given as goal

abbrev pub invariant-loop-next : goal.invariant-loop-next
invariant-loop-next g l = record {
  passed : l.passed ≤ leading (g.T.Ordered.is_below l.wanted) l.items;
}

abbrev pub decreases-loop-next : goal.decreases-loop-next
decreases-loop-next g l = length l.items - l.next
