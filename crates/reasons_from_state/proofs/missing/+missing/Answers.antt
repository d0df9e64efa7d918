use Rattle.std.proofs.Common.{ap, arith}
use Rattle.policy.specs.Tree.{size_of}
use Rattle.policy_eval.proofs.Counting.{size_of-member}
use Rattle.reasons_from_state.proofs.missing.+missing.Goals as goal

pub first_missing-missing_from-satisfied-requires : goal.first_missing-missing_from-satisfied-requires
first_missing-missing_from-satisfied-requires t c =
    let smaller = size_of-member c.args.members.now c.loop-member.member-index c.member-item.result c.loop-member-test.true in
    (omega (arith, smaller, ap size_of c.member-item.is), omega arith)
