use Rattle.std.proofs.Common.{◌≡◌, take}
use Rattle.scripts.proofs.namespace.lend_policy_writes.Given as goal

abbrev pub invariant-loop-write : goal.invariant-loop-write
invariant-loop-write l = l.lent ≡ take l.write-index l.writes
