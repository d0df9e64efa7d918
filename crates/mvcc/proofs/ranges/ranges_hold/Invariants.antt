use Rattle.std.proofs.Common.{drop}
use Rattle.std.specs.Prelude.{IsTrue}
use Rattle.std.specs.List.{list_all}
use Rattle.rules.specs.Assignment.{state_under}
use Rattle.rules.specs.Ranges.{range_holds}
use Rattle.rules.specs.ReadWriteSets.{has_results_in_form}
use Rattle.mvcc.proofs.EachTested.{AreLeft}
use Rattle.mvcc.proofs.ranges.ranges_hold.Given as goal

abbrev pub invariant-loop-range : goal.invariant-loop-range
invariant-loop-range g l = record {
  moves : g.B.Board.moves l.initial.board l.board;
  in_form : IsTrue (list_all has_results_in_form (drop l.range-index l.ranges));
  left : AreLeft (λ called. range_holds (state_under l.job called l.i) l.namespace) (g.B.Board.known l.board) l.i l.ranges (drop l.range-index l.ranges);
}
