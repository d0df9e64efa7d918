use Rattle.std.proofs.Common.{◌≡◌}
use Rattle.check_workers.proofs.workers.work.Given as goal

abbrev pub invariant-loop : goal.invariant-loop
invariant-loop g l = l.seat.job ≡ l.job
