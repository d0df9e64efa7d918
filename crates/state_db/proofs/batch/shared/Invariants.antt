use Rattle.std.proofs.Common.{◌≡◌, take}
use Rattle.state_db.proofs.batch.shared.Given as goal

abbrev pub invariant-loop-edit : goal.invariant-loop-edit
invariant-loop-edit l = l.shared.items ≡ take l.edit-index l.edits
