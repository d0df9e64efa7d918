use Rattle.std.proofs.Common.{◌≡◌, ◌≤◌, ◌+◌, ◌*◌, drop, length}
use Rattle.policy.specs.Tree.{Trees, size_of, size_of_all}
use Rattle.policy.specs.View.{trees}
use Rattle.policy_eval.specs.Evaluating.{evaluate_all}
use Rattle.policy_eval.proofs.Counting.{added}
use Rattle.reasons.specs.Shortfall.{others_before}
use Rattle.reasons_from_state.proofs.missing.+wide_last.Given as goal

abbrev pub decreases-holds_wide_last : goal.decreases-holds_wide_last
decreases-holds_wide_last l = 2 * size_of l.expression.now

abbrev pub decreases-count_others : goal.decreases-count_others
decreases-count_others l = 2 * size_of_all (trees l.members.now) + 1

abbrev pub invariant-count_others-loop-member : goal.invariant-count_others-loop-member
invariant-count_others-loop-member l = record {
  few : l.count ≤ l.member-index;
  answers : (wide : Trees) → evaluate_all (others_before wide (trees l.members)) l.signers l.initial.used ≡ added l.count (evaluate_all (others_before wide (trees (drop l.member-index l.members))) l.signers l.used);
  marks : length l.used ≡ length l.initial.used;
}
