use Rattle.std.proofs.Common.{◌≡◌, map, drop}
use Rattle.rules.specs.ReadWriteSets.{are_distinct}
use Rattle.candidates.proofs.labels.are_distinct_in_pairs.Given as goal

abbrev pub invariant-loop-i : goal.invariant-loop-i
invariant-loop-i g l = are_distinct (map g.T.Labelled.label l.items) ≡ are_distinct (map g.T.Labelled.label (drop l.i l.items))
