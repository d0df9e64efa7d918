use Rattle.std.proofs.Common.{◌≡◌, length}
use Rattle.block_tests.proofs.asking.board_of.Given as goal

abbrev pub invariant-loop-i : goal.invariant-loop-i
invariant-loop-i l = length l.board ≡ length l.job.candidates
