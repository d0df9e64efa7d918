-- Evaluation as a function: it answers what the relation does, as `policy_eval::one_evaluation` says.
use Rattle.std.specs.Prelude.{ℕ, ◌+◌, nat_le, List, Bool, true, false, if◌then◌else◌, Option, Some, None, slice_set}
use Rattle.transaction.specs.declared.identity.Identity.{Identity}
use Rattle.policy.specs.Tree.{Tree, Trees, principal, gate, none, more}
use Rattle.policy_eval.specs.Evaluation.{first_free, none_used}

-- an answer, or a count of yes, with the set after it
abbrev pub taken : List Bool → Option ℕ → Bool × List Bool
taken used None = (false, used)
taken used (Some place) = (true, slice_set used place true)

abbrev pub gated : ℕ → List Bool → ℕ × List Bool → Bool × List Bool
gated threshold used members = if nat_le threshold members.0 then (true, members.1) else (false, used)

abbrev pub counted : Bool → ℕ × List Bool → ℕ × List Bool
counted answer others = ((if answer then 1 else 0) + others.0, others.1)

abbrev mutual
  pub evaluate : Tree → List Identity → List Bool → Bool × List Bool
  evaluate (principal org role) signers used = taken used (first_free org role signers used)
  evaluate (gate threshold members) signers used = gated threshold used (evaluate_all members signers used)

  pub evaluate_all : Trees → List Identity → List Bool → ℕ × List Bool
  evaluate_all none signers used = (0, used)
  evaluate_all (more member members) signers used =
      let first = evaluate member signers used in
      counted first.0 (evaluate_all members signers first.1)

-- whether the signers satisfy the policy
abbrev pub is_satisfied : Tree → List Identity → Bool
is_satisfied policy signers = (evaluate policy signers (none_used signers)).0
