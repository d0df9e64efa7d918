use Rattle.std.proofs.Common.{ap, arith}
use Rattle.policy.specs.Tree.{size_of}
use Rattle.policy_eval.proofs.Counting.{size_of-member, leaves-drop}
use Rattle.policy_eval.proofs.assigning.+assign.Goals as goal

pub assign_members-assign-requires : goal.assign_members-assign-requires
assign_members-assign-requires t c =
    let i = c.loop-member.member-index in
    let smaller = size_of-member c.args.members.now i c.member-item.result c.loop-member-test.true in
    let split = leaves-drop c.args.members.now i c.member-item.result c.loop-member-test.true c.member-item.is in
    (omega (arith, smaller, ap size_of c.member-item.is), (omega arith, (omega arith, omega (arith, split, c.loop-member.invariant.numbers, c.requires.numbers))))
