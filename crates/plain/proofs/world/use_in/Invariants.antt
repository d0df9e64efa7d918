use Rattle.std.proofs.Common.{◌≡◌, drop}
use Rattle.std.specs.FinMap.{find}
use Rattle.values.specs.Order.{bytes_cmp}
use Rattle.rules.specs.Delta.{uses_in}
use Rattle.plain.proofs.world.use_in.Given as goal

abbrev pub invariant-loop-used : goal.invariant-loop-used
invariant-loop-used l = find bytes_cmp l.id (uses_in l.uses) ≡ find bytes_cmp l.id (uses_in (drop l.used-index l.uses))
