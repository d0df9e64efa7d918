use Rattle.std.proofs.Common.{◌≡◌, ◌≤◌, ◌+◌, ◌++◌, length, reverse}
use Rattle.std.specs.Vec.{vec_capacity}
use Rattle.state_db.proofs.slots.move_tail.Given as goal

abbrev pub invariant-loop-rows : goal.invariant-loop-rows
invariant-loop-rows l = record {
  items : l.fn.rows.items ≡ l.rows.items ++ reverse l.tail.items;
  len : length l.fn.rows.items ≡ length l.rows.items + length l.tail.items;
  keep : l.keep ≤ length l.rows.items;
  rows : vec_capacity l.fn.rows ≤ vec_capacity l.rows;
  tail : vec_capacity l.fn.tail ≤ vec_capacity l.tail;
}

abbrev pub decreases-loop-rows : goal.decreases-loop-rows
decreases-loop-rows l = length l.rows.items
