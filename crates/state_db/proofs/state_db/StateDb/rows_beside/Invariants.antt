use Rattle.std.proofs.Common.{take}
use Rattle.state_db.specs.LookedUp.{AreRows}
use Rattle.state_db.proofs.state_db.StateDb.rows_beside.Given as goal

abbrev pub invariant-loop-place : goal.invariant-loop-place
invariant-loop-place l = AreRows l.self.state (take l.place l.keys) l.rows.items
