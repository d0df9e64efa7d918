use Rattle.std.proofs.Common.{◌≡◌, ◌-◌, ◌≤◌, ◌%◌, drop}
use Rattle.values.specs.Order.{bytes_cmp}
use Rattle.state_keys.proofs.head.order_of.Given as goal

abbrev pub invariant-loop-place : goal.invariant-loop-place
invariant-loop-place l = record {
  rest : bytes_cmp l.head l.other ≡ bytes_cmp (drop l.place l.head) (drop l.place l.other);
  words : l.place % 8 ≡ 0;
  bound : l.place ≤ 24;
}

abbrev pub decreases-loop-place : goal.decreases-loop-place
decreases-loop-place l = 24 - l.place
