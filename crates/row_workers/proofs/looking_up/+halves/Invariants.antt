use Prim.Native.Nat.{◌+◌, ◌*◌}
use Rattle.row_workers.proofs.looking_up.+halves.Given as goal

abbrev pub decreases-rows_by : goal.decreases-rows_by
decreases-rows_by g l = 2 * l.threads

abbrev pub decreases-front : goal.decreases-front
decreases-front g l = 2 * l.few + 1

abbrev pub decreases-back : goal.decreases-back
decreases-back g l = 2 * l.rest + 1
