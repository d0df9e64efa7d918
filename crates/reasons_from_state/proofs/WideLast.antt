-- A walk over the members of a gate whose wide principals go last.
use Rattle.std.proofs.Common.{◌≡◌, ℕ, suc, ◌+◌, ◌<◌, List, Bool, true, false, cond, length, get_or, drop, Option, ap, sym, ◌∙◌, arith, drop-cons}
use Rattle.std.specs.Prelude.{is_some}
use Rattle.transaction.specs.declared.identity.Identity.{Identity}
use Rattle.policy.specs.declared.tree.PolicyRole.{PolicyRole}
use Rattle.policy.specs.Tree.{Tree, Trees, principal, more}
use Rattle.policy.specs.View.{trees}
use Rattle.policy_eval.specs.Evaluation.{first_free}
use Rattle.policy_eval.specs.Evaluating.{evaluate, evaluate_all, counted, taken}
use Rattle.policy_eval.proofs.Counting.{added}
use Rattle.reasons.specs.Shortfall.{is_wide, wide_of, wide_last, others_before}

added-counted : (n : ℕ) (answer : Bool) (rest : ℕ × List Bool) → added n (counted answer rest) ≡ added (n + cond answer 1 0) rest
added-counted n true rest = let e : n + (1 + rest.0) ≡ (n + 1) + rest.0 = omega arith in λ i. (e i, rest.1)
added-counted n false rest = let e : n + (0 + rest.0) ≡ (n + 0) + rest.0 = omega arith in λ i. (e i, rest.1)

-- one tree more, which answers this
counts : (signers : List Identity) (t : Tree) (ts : Trees) (used after : List Bool) (n : ℕ) (answer : Bool) → evaluate t signers used ≡ (answer, after)
    → added n (evaluate_all (more t ts) signers used) ≡ added (n + cond answer 1 0) (evaluate_all ts signers after)
counts signers t ts used after n answer e = ap (λ (p : Bool × List Bool). added n (counted p.0 (evaluate_all ts signers p.1))) e ∙ added-counted n answer (evaluate_all ts signers after)

-- what a principal answers by the place that it took
pub took : (org : List ℕ) (role : PolicyRole) (signers : List Identity) (used after : List Bool) (place : Option ℕ) → place ≡ first_free org role signers used → taken used place ≡ (is_some place, after)
    → evaluate (principal org role) signers used ≡ (is_some place, after)
took org role signers used after place is marks = ap (taken used) (sym is) ∙ marks

module _ (signers : List Identity) (ts : List Tree) (i : ℕ) (t : Tree) (h : i < length ts) (is : t ≡ get_or ts i t) where
  shown : {X : Type 0} (f : Trees → X) → f (trees (drop i ts)) ≡ f (more t (trees (drop (suc i) ts)))
  shown f = ap (λ (l : List Tree). f (trees l)) (drop-cons ts i t h) ∙ ap (λ (m : Tree). f (more m (trees (drop (suc i) ts)))) (sym is)

  -- ---- the wide ones

  pub wide_skipped : is_wide t ≡ false → (used : List Bool) → evaluate_all (wide_of (trees (drop i ts))) signers used ≡ evaluate_all (wide_of (trees (drop (suc i) ts))) signers used
  wide_skipped narrow used =
      ap (λ (l : Trees). evaluate_all l signers used)
      (shown wide_of ∙ ap (λ (b : Bool). cond b (more t (wide_of (trees (drop (suc i) ts)))) (wide_of (trees (drop (suc i) ts)))) narrow)

  pub wide_more : is_wide t ≡ true → (used after : List Bool) (n : ℕ) (answer : Bool) → evaluate t signers used ≡ (answer, after)
      → added n (evaluate_all (wide_of (trees (drop i ts))) signers used) ≡ added (n + cond answer 1 0) (evaluate_all (wide_of (trees (drop (suc i) ts))) signers after)
  wide_more wide used after n answer e =
      ap (λ (l : Trees). added n (evaluate_all l signers used))
      (shown wide_of ∙ ap (λ (b : Bool). cond b (more t (wide_of (trees (drop (suc i) ts)))) (wide_of (trees (drop (suc i) ts)))) wide)
      ∙ counts signers t (wide_of (trees (drop (suc i) ts))) used after n answer e

  -- ---- the others

  pub others_skipped : is_wide t ≡ true → (wide : Trees) (used : List Bool) → evaluate_all (others_before wide (trees (drop i ts))) signers used ≡ evaluate_all (others_before wide (trees (drop (suc i) ts))) signers used
  others_skipped is_one wide used =
      ap (λ (l : Trees). evaluate_all l signers used)
      (shown (others_before wide)
      ∙ ap (λ (b : Bool). cond b (others_before wide (trees (drop (suc i) ts))) (more (wide_last t) (others_before wide (trees (drop (suc i) ts))))) is_one)

  pub others_more : is_wide t ≡ false → (wide : Trees) (used after : List Bool) (n : ℕ) (answer : Bool) → evaluate (wide_last t) signers used ≡ (answer, after)
      → added n (evaluate_all (others_before wide (trees (drop i ts))) signers used) ≡ added (n + cond answer 1 0) (evaluate_all (others_before wide (trees (drop (suc i) ts))) signers after)
  others_more narrow wide used after n answer e =
      ap (λ (l : Trees). added n (evaluate_all l signers used))
      (shown (others_before wide)
      ∙ ap (λ (b : Bool). cond b (others_before wide (trees (drop (suc i) ts))) (more (wide_last t) (others_before wide (trees (drop (suc i) ts))))) narrow)
      ∙ counts signers (wide_last t) (others_before wide (trees (drop (suc i) ts))) used after n answer e
