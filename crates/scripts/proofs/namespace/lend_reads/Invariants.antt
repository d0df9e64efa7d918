use Rattle.std.proofs.Common.{◌≡◌, take}
use Rattle.scripts.proofs.namespace.lend_reads.Given as goal

abbrev pub invariant-loop-read : goal.invariant-loop-read
invariant-loop-read l = l.lent ≡ take l.read-index l.reads
