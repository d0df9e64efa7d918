use Rattle.std.proofs.Common.{map}
use Rattle.rules.specs.Assignment.{state_under}
use Rattle.mvcc.specs.RangeChecks.{is_listed, StopCompared}
use Rattle.mvcc.proofs.EachTested.{AreLeft}
use Rattle.mvcc.proofs.ranges.are_rows_listed.Given as goal

abbrev pub invariant-loop-row : goal.invariant-loop-row
invariant-loop-row g l = record {
  moves : g.B.Board.moves l.initial.board l.board;
  stop : StopCompared l.range (map (λ e. e.0.1) l.row-iterator);
  left : AreLeft (λ called. is_listed (state_under l.job called l.i) l.namespace l.range) (g.B.Board.known l.board) l.i (map (λ e. e.0.1) l.fn.rows) (map (λ e. e.0.1) l.row-iterator);
}
