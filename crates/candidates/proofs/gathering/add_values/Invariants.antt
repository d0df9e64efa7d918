use Rattle.std.proofs.Common.{◌≡◌, ◌++◌, map, take}
use Rattle.candidates.specs.Gathering.{value_write}
use Rattle.candidates.proofs.gathering.add_values.Given as goal

abbrev pub invariant-loop-write : goal.invariant-loop-write
invariant-loop-write l = l.written.items ≡ l.initial.written.items ++ map (value_write l.set) (take l.write-index l.set.writes)
