use Rattle.std.proofs.Common.{drop}
use Rattle.rules.specs.Assignment.{state_under}
use Rattle.mvcc.specs.RangeChecks.{is_found}
use Rattle.mvcc.proofs.EachTested.{AreLeft}
use Rattle.mvcc.proofs.ranges.are_found.Given as goal

abbrev pub invariant-loop-found : goal.invariant-loop-found
invariant-loop-found g l = record {
  moves : g.B.Board.moves l.initial.board l.board;
  left : AreLeft (λ called. is_found (state_under l.job called l.i) l.namespace l.range) (g.B.Board.known l.board) l.i l.results (drop l.found-index l.results);
}
