use Rattle.std.proofs.Common.{◌≡◌, ◌≤◌}
use Rattle.arrayvec.specs.ArrayVec.{array_vec_len}
use Rattle.check_workers.proofs.workers.settle_own.Given as goal

abbrev pub invariant-loop-task : goal.invariant-loop-task
invariant-loop-task g l = (l.seat.job ≡ l.job) × (array_vec_len l.settled ≤ l.task-index)

abbrev pub invariant-loop : goal.invariant-loop
invariant-loop g l = (l.seat.job ≡ l.job) × (array_vec_len l.settled ≤ l.counter)
