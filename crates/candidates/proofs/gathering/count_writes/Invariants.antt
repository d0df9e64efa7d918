use Rattle.std.proofs.Common.{◌≡◌, ◌-◌, ◌^◌, take, length, min}
use Rattle.std.specs.Prelude.{flat_map}
use Rattle.candidates.specs.Gathering.{writes_in}
use Rattle.candidates.proofs.gathering.count_writes.Given as goal

abbrev pub invariant-loop-set : goal.invariant-loop-set
invariant-loop-set l = l.count ≡ min (length (flat_map writes_in (take l.set-index l.sets))) (2 ^ 64 - 1)
