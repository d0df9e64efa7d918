use Rattle.std.proofs.Common.{arith}
use Rattle.task_desk.proofs.Members.{zeros-members, zeros-words}
use Rattle.task_desk.proofs.bit_set.BitSet.empty.Goals as goal

pub returns : goal.returns
returns c = zeros-members c.in_ok-words.words.items c.div_ceil.result c.args.count c.in_ok-words.ensures

pub invariant_of-result : goal.invariant_of-result
invariant_of-result c = zeros-words c.in_ok-words.words.items c.div_ceil.result c.args.count c.in_ok-words.ensures (omega (arith, c.requires, c.div_ceil.ensures)) (omega (arith, c.div_ceil.ensures))
