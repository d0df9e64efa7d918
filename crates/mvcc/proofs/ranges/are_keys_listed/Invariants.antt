use Rattle.std.proofs.Common.{drop, map}
use Rattle.rules.specs.Assignment.{state_under}
use Rattle.mvcc.specs.RangeChecks.{is_listed}
use Rattle.mvcc.proofs.EachTested.{AreLeft}
use Rattle.mvcc.proofs.ranges.are_keys_listed.Given as goal

abbrev pub invariant-loop-key : goal.invariant-loop-key
invariant-loop-key g l = record {
  moves : g.B.Board.moves l.initial.board l.board;
  left : AreLeft (λ called. is_listed (state_under l.job called l.i) l.namespace l.range) (g.B.Board.known l.board) l.i (map (λ k. k.1) l.keys) (map (λ k. k.1) (drop l.key-index l.keys));
}
