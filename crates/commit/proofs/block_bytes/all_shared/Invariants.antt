use Rattle.std.proofs.Common.{◌≡◌, take}
use Rattle.commit.proofs.block_bytes.all_shared.Given as goal

abbrev pub invariant-loop-bytes : goal.invariant-loop-bytes
invariant-loop-bytes l = l.all.items ≡ take l.bytes-index l.blocks
