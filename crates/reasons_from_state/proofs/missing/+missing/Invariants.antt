use Rattle.std.proofs.Common.{◌≡◌, ◌≤◌, ◌*◌, ◌+◌, drop}
use Rattle.std.specs.Option.{option_or, option_copied}
use Rattle.policy.specs.Tree.{size_of, size_of_all}
use Rattle.policy.specs.View.{trees}
use Rattle.policy_eval.specs.Evaluating.{evaluate_all}
use Rattle.policy_eval.proofs.Counting.{added}
use Rattle.reasons.specs.Shortfall.{first_missing}
use Rattle.reasons_from_state.proofs.missing.+missing.Given as goal

abbrev pub decreases-missing_from : goal.decreases-missing_from
decreases-missing_from l = 2 * size_of l.expression.now

abbrev pub decreases-first_missing : goal.decreases-first_missing
decreases-first_missing l = 2 * size_of_all (trees l.members.now) + 1

abbrev pub invariant-first_missing-loop-member : goal.invariant-first_missing-loop-member
invariant-first_missing-loop-member l = record {
  few : l.count ≤ l.member-index;
  answers : evaluate_all (trees l.members) l.signers l.initial.used ≡ added l.count (evaluate_all (trees (drop l.member-index l.members)) l.signers l.used);
  missing : first_missing (trees l.members) l.signers l.initial.used ≡ option_or (option_copied l.first) (first_missing (trees (drop l.member-index l.members)) l.signers l.used);
}
