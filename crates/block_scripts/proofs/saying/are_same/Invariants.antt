use Rattle.std.proofs.Common.{◌≡◌, take}
use Rattle.block_scripts.proofs.saying.are_same.Given as goal

abbrev pub invariant-loop-index : goal.invariant-loop-index
invariant-loop-index l = take l.index l.drafted ≡ take l.index l.txs
