use Rattle.std.proofs.Common.{◌<◌, ◌≤◌, All}
use Rattle.arrayvec.specs.ArrayVec.{array_vec_len}
use Rattle.check_workers.proofs.turns.Waited.fill.Given as goal

abbrev pub invariant-loop-place : goal.invariant-loop-place
invariant-loop-place g l = (array_vec_len l.kept ≤ l.place) × All (λ task. task < g.J.Tasks.tasks) l.kept.items
