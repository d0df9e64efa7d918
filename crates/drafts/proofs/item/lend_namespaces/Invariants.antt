use Rattle.std.proofs.Common.{◌≡◌, take}
use Rattle.drafts.proofs.item.lend_namespaces.Given as goal

abbrev pub invariant-loop-namespace : goal.invariant-loop-namespace
invariant-loop-namespace l = l.lent ≡ take l.namespace-index l.namespaces
