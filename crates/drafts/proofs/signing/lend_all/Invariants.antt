use Rattle.std.proofs.Common.{◌≡◌, take}
use Rattle.drafts.proofs.signing.lend_all.Given as goal

abbrev pub invariant-loop-one : goal.invariant-loop-one
invariant-loop-one l = l.lent ≡ take l.one-index l.signed
