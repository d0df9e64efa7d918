use Rattle.std.proofs.Common.{◌≡◌, take}
use Rattle.std.specs.Option.{option_copied}
use Rattle.std.specs.FinMap.{get}
use Rattle.rules.specs.State.{State, with_changes}
use Rattle.rules.specs.Delta.{changes_in}
use Rattle.plain.specs.Keys.{key_of}
use Rattle.plain.proofs.world.row_after.Given as goal

abbrev pub invariant-loop-change : goal.invariant-loop-change
invariant-loop-change l = (s : State) → option_copied l.fn.before ≡ get s (key_of l.wanted) → option_copied l.row ≡ get (with_changes s (changes_in (take l.change-index l.changes))) (key_of l.wanted)
