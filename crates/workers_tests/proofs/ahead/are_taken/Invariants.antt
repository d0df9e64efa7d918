use Rattle.std.proofs.Common.{◌≡◌}
use Rattle.workers_tests.proofs.ahead.are_taken.Given as goal

abbrev pub invariant-loop-piece : goal.invariant-loop-piece
invariant-loop-piece g l = l.ahead.pieces.now ≡ l.pieces
