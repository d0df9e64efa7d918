use Rattle.std.proofs.Common.{drop}
use Rattle.rules.specs.Assignment.{state_under}
use Rattle.rules.specs.Reads.{read_holds}
use Rattle.mvcc.proofs.EachTested.{AreLeft}
use Rattle.mvcc.proofs.reads.reads_hold.Given as goal

abbrev pub invariant-loop-n : goal.invariant-loop-n
invariant-loop-n g l = record {
  moves : g.B.Board.moves l.initial.board l.board;
  left : AreLeft (λ called. read_holds (state_under l.job called l.i) l.namespace) (g.B.Board.known l.board) l.i l.reads (drop l.n l.reads);
}
