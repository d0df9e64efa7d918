use Rattle.std.proofs.Common.{◌≡◌, take}
use Rattle.rules.specs.State.{State, with_changes}
use Rattle.rules.specs.Delta.{changes_in}
use Rattle.state_db.specs.Batch.{changed}
use Rattle.state_db.proofs.batch.Batch.of_looked_up.Given as goal

abbrev pub invariant-loop-change : goal.invariant-loop-change
invariant-loop-change l = (s : State) → changed s l.batch ≡ with_changes s (changes_in (take l.change-index l.changes))
