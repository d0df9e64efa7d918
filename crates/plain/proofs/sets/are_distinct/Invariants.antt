use Rattle.std.proofs.Common.{◌≡◌, map, drop}
use Rattle.rules.specs.ReadWriteSets.{are_distinct}
use Rattle.plain.proofs.sets.are_distinct.Given as goal

abbrev pub invariant-loop-i : goal.invariant-loop-i
invariant-loop-i l = are_distinct (map (λ text. text.now) l.texts) ≡ are_distinct (map (λ text. text.now) (drop l.i l.texts))
