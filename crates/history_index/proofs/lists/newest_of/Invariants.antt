use Rattle.std.proofs.Common.{◌≡◌, ◌≤◌}
use Rattle.history_index.specs.Lists.{all_entries, entries_before, IsChain}
use Rattle.history_index.proofs.lists.newest_of.Given as goal

abbrev pub invariant-loop-place : goal.invariant-loop-place
invariant-loop-place l = record {
  chain : IsChain (l.namespace, l.key) (all_entries l.lists) l.place;
  entries : entries_before (all_entries l.lists) (l.namespace, l.key) l.place ≡ entries_before (all_entries l.lists) (l.namespace, l.key) l.from;
  bound : l.place ≤ l.from;
}

abbrev pub decreases-loop-place : goal.decreases-loop-place
decreases-loop-place l = l.place
