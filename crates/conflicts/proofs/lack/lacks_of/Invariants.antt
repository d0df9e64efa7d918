use Rattle.std.proofs.Common.{◌≡◌, take}
use Rattle.conflicts.specs.Lack.{lacks_of}
use Rattle.conflicts.proofs.lack.lacks_of.Given as goal

abbrev pub invariant-loop-reason : goal.invariant-loop-reason
invariant-loop-reason l = l.lacks.items ≡ lacks_of (take l.reason-index l.reasons)
