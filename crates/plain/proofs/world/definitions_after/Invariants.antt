use Rattle.std.proofs.Common.{◌≡◌, drop}
use Rattle.rules.specs.Definitions.{with_definitions}
use Rattle.rules.specs.Delta.{definitions_in}
use Rattle.plain.proofs.world.definitions_after.Given as goal

abbrev pub invariant-loop-new : goal.invariant-loop-new
invariant-loop-new l = with_definitions l.definitions (definitions_in l.more) ≡ with_definitions l.after (definitions_in (drop l.new-index l.more))
