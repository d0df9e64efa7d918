use Rattle.std.proofs.Common.{◌-◌, length}
use Rattle.state_db.specs.Need.{AreEmpty}
use Rattle.state_db.proofs.spare.stock.Given as goal

abbrev pub invariant-loop-alloc : goal.invariant-loop-alloc
invariant-loop-alloc l = AreEmpty l.spare.items

abbrev pub decreases-loop-alloc : goal.decreases-loop-alloc
decreases-loop-alloc l = l.count - length l.spare.items
