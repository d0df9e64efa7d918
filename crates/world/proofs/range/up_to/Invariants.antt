use Rattle.std.proofs.Common.{◌≡◌, ◌++◌, ◌≤◌, length, map}
use Rattle.world.proofs.range.up_to.Given as goal

abbrev pub invariant-loop-row : goal.invariant-loop-row
invariant-loop-row l = record {
  all : map (λ row. row.now) l.rows.items ++ l.row-iterator ≡ l.fn.left;
  within : length l.rows.items ≤ l.limit;
}
