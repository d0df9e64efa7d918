-- The state within a block. No public contract cites this.
use Rattle.rules.specs.State.{State, with_changes}
use Rattle.rules.specs.Delta.{changes_in}
use Rattle.plain.specs.declared.state.StateNow.{StateNow}

abbrev pub state_now : StateNow → State
state_now s = with_changes s.world.now.state (changes_in s.changes.now)
