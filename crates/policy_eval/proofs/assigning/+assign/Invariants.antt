use Rattle.std.proofs.Common.{◌≡◌, ◌≤◌, ◌+◌, ◌*◌, ◌++◌, drop}
use Rattle.policy.specs.Tree.{size_of, size_of_all, all_leaves}
use Rattle.policy.specs.View.{trees}
use Rattle.policy_eval.specs.Evaluating.{evaluate_all}
use Rattle.policy_eval.specs.Assignment.{assigned_all}
use Rattle.policy_eval.proofs.Counting.{added}
use Rattle.policy_eval.proofs.assigning.+assign.Given as goal

abbrev pub decreases-assign : goal.decreases-assign
decreases-assign l = 2 * size_of l.expression.now

abbrev pub decreases-assign_members : goal.decreases-assign_members
decreases-assign_members l = 2 * size_of_all (trees l.members.now) + 1

abbrev pub invariant-assign_members-loop-member : goal.invariant-assign_members-loop-member
invariant-assign_members-loop-member l = record {
  few : l.count ≤ l.member-index;
  answers : evaluate_all (trees l.members) l.signers l.initial.used ≡ added l.count (evaluate_all (trees (drop l.member-index l.members)) l.signers l.used);
  numbers : l.so_far.next + all_leaves (trees (drop l.member-index l.members)) ≡ l.initial.so_far.next + all_leaves (trees l.members);
  pairs : l.so_far.pairs.items ++ assigned_all (trees (drop l.member-index l.members)) l.signers l.used l.so_far.next
      ≡ l.initial.so_far.pairs.items ++ assigned_all (trees l.members) l.signers l.initial.used l.initial.so_far.next;
}
