use Rattle.std.proofs.Common.{◌≡◌, take}
use Rattle.conflicts.specs.Conflict.{conflicts_of}
use Rattle.conflicts.proofs.conflict.conflicts_of.Given as goal

abbrev pub invariant-loop-reason : goal.invariant-loop-reason
invariant-loop-reason l = l.conflicts.items ≡ conflicts_of (take l.reason-index l.reasons)
