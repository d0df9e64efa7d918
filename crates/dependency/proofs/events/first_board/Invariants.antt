use Rattle.dependency.proofs.Beginning.{Begun}
use Rattle.dependency.proofs.events.first_board.Given as goal

abbrev pub invariant-loop-i : goal.invariant-loop-i
invariant-loop-i l = Begun l.job l.i l.board
