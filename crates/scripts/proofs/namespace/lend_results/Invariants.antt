use Rattle.std.proofs.Common.{◌≡◌, take}
use Rattle.scripts.proofs.namespace.lend_results.Given as goal

abbrev pub invariant-loop-found : goal.invariant-loop-found
invariant-loop-found l = l.lent ≡ take l.found-index l.results
