use Rattle.std.proofs.Common.{◌≡◌, ◌≤◌, ◌+◌, ◌*◌, drop}
use Rattle.policy.specs.Tree.{size_of, size_of_all}
use Rattle.policy.specs.View.{trees}
use Rattle.policy_eval.specs.Evaluating.{evaluate_all}
use Rattle.policy_eval.proofs.Counting.{added}
use Rattle.policy_eval.proofs.evaluation.+evaluate.Given as goal

abbrev pub decreases-evaluate : goal.decreases-evaluate
decreases-evaluate l = 2 * size_of l.expression.now

abbrev pub decreases-are_enough : goal.decreases-are_enough
decreases-are_enough l = 2 * size_of_all (trees l.members.now) + 1

abbrev pub invariant-are_enough-loop-member : goal.invariant-are_enough-loop-member
invariant-are_enough-loop-member l = record {
  few : l.count ≤ l.member-index;
  so_far : evaluate_all (trees l.members) l.signers l.initial.used ≡ added l.count (evaluate_all (trees (drop l.member-index l.members)) l.signers l.used);
}
