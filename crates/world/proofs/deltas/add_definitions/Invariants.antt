use Rattle.std.proofs.Common.{◌≡◌, take}
use Rattle.rules.specs.Definitions.{with_definitions}
use Rattle.rules.specs.Delta.{definitions_in}
use Rattle.world.proofs.deltas.add_definitions.Given as goal

abbrev pub invariant-loop-definition : goal.invariant-loop-definition
invariant-loop-definition l = l.definitions ≡ with_definitions l.fn.definitions (definitions_in (take l.definition-index l.more))
