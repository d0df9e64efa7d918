use Rattle.std.proofs.Common.{map}
use Rattle.mvcc.specs.RangeChecks.{StopCompared}
use Rattle.mvcc.proofs.ComparedKeys.{AreTaken}
use Rattle.mvcc.proofs.compared.compared_rows.Given as goal

abbrev pub invariant-loop-row : goal.invariant-loop-row
invariant-loop-row l = record {
  stop : StopCompared l.range (map (λ e. e.0.1) l.row-iterator);
  taken : AreTaken l.range (map (λ e. e.0.1) l.fn.rows) l.keys.items (map (λ e. e.0.1) l.row-iterator);
}
