use Rattle.std.proofs.Common.{◌≡◌}
use Rattle.rules.specs.Delta.{definitions_in}
use Rattle.rules.specs.Fold.{definitions_to}
use Rattle.effects.proofs.defining.definitions_of.Given as goal

abbrev pub invariant-loop-i : goal.invariant-loop-i
invariant-loop-i l = definitions_in l.definitions.items ≡ definitions_to l.job l.i
