use Rattle.std.proofs.Common.{ap, arith}
use Rattle.policy.specs.Tree.{size_of}
use Rattle.policy_eval.proofs.Counting.{size_of-member}
use Rattle.policy_eval.proofs.evaluation.+evaluate.Goals as goal

pub are_enough-evaluate-requires : goal.are_enough-evaluate-requires
are_enough-evaluate-requires t c =
    let smaller = size_of-member c.args.members.now c.loop-member.member-index c.member-item.result c.loop-member-test.true in
    (omega (arith, smaller, ap size_of c.member-item.is), omega arith)
