use Rattle.std.proofs.Common.{◌<◌, ℕ, All}
use Rattle.mvcc.specs.Versions.{IsOperator}
use Rattle.mvcc.proofs.Walking.{AreLeft}
use Rattle.mvcc.proofs.walk.walk.Given as goal

abbrev pub invariant-loop-operation : goal.invariant-loop-operation
invariant-loop-operation g l = record {
  moves : g.B.Board.moves l.initial.board l.board;
  earlier : All (λ o. o.tx < l.i) l.operation-iterator;
  whose : (h : ℕ) → IsOperator h l.operation-iterator → IsOperator h l.fn.operations;
  left : AreLeft l.number l.i (g.B.Board.known l.board) l.fn.operations l.noted l.operation-iterator;
}
