use Rattle.std.proofs.Common.{◌≡◌, ◌≤◌, drop}
use Rattle.policy.specs.View.{trees}
use Rattle.policy_eval.specs.Evaluating.{evaluate_all}
use Rattle.policy_eval.proofs.Counting.{added}
use Rattle.reasons.specs.Shortfall.{wide_of}
use Rattle.reasons_from_state.proofs.missing.count_wide.Given as goal

abbrev pub invariant-loop-member : goal.invariant-loop-member
invariant-loop-member l = record {
  few : l.count ≤ l.member-index;
  so_far : evaluate_all (wide_of (trees l.members)) l.signers l.initial.used ≡ added l.count (evaluate_all (wide_of (trees (drop l.member-index l.members))) l.signers l.used);
}
