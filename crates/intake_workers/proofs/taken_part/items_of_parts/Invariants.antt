use Rattle.std.proofs.Common.{◌≡◌, ◌++◌}
use Rattle.std.specs.Vec.Iter.{into_iter_items}
use Rattle.intake_workers.specs.Parts.{all_of_parts}
use Rattle.intake_workers.proofs.taken_part.items_of_parts.Given as goal

-- what is joined, and what is left
abbrev pub invariant-loop-part : goal.invariant-loop-part
invariant-loop-part l = l.all.items ++ all_of_parts (into_iter_items l.part-iterator) ≡ all_of_parts l.fn.parts.items
