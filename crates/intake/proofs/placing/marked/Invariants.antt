use Rattle.std.proofs.Common.{◌≡◌, ◌++◌, map}
use Rattle.std.specs.Iterator.Adapters.{zip_first, zip_second}
use Rattle.std.specs.Slice.Iter.{iter_rest}
use Rattle.std.specs.Vec.Iter.{into_iter_items}
use Rattle.candidates.specs.Seen.{seen}
use Rattle.intake.specs.Tentative.{marked}
use Rattle.intake.proofs.placing.marked.Given as goal

abbrev pub invariant-loop-candidate : goal.invariant-loop-candidate
invariant-loop-candidate l =
    marked (map seen l.fn.candidates.items) l.used
    ≡ map seen l.all.items ++ marked (map seen (into_iter_items (zip_first l.candidate-iterator))) (iter_rest (zip_second l.candidate-iterator))
