-- A run goes on by one string of bytes, and has an answer for each.
use Rattle.std.proofs.Common.{◌≡◌, ℕ, suc, List, [], ◌∷◌, ◌++◌, length, Result, refl, ap, subst}
use Rattle.policy_eval.specs.Accepts.{Accepts}
use Rattle.query.specs.declared.receipt.Receipt.{Receipt}
use Rattle.commit.specs.declared.not_committed.NotCommitted.{NotCommitted}
use Rattle.commit.specs.Committing.{Committing, Submits, Runs}

module _ (accepts : Accepts) where
  pub Runs-push : (old mid new : Committing) (blocks : List (List ℕ)) (answers : List (Result Receipt NotCommitted)) (bytes : List ℕ) (answer : Result Receipt NotCommitted)
      → Runs accepts old blocks answers mid → Submits accepts mid bytes answer new → Runs accepts old (blocks ++ bytes ∷ []) (answers ++ answer ∷ []) new
  Runs-push old mid new [] [] bytes answer runs submits = (new, subst (λ (c : Committing). Submits accepts c bytes answer new) runs submits, refl)
  Runs-push old mid new (first ∷ blocks) (a ∷ answers) bytes answer runs submits = (runs.0, runs.1, Runs-push runs.0 mid new blocks answers bytes answer runs.2 submits)
  Runs-push old mid new [] (a ∷ answers) bytes answer runs submits = absurd runs
  Runs-push old mid new (first ∷ blocks) [] bytes answer runs submits = absurd runs

  pub one_each : (old new : Committing) (blocks : List (List ℕ)) (answers : List (Result Receipt NotCommitted)) → Runs accepts old blocks answers new → length answers ≡ length blocks
  one_each old new [] [] runs = refl
  one_each old new (bytes ∷ blocks) (answer ∷ answers) runs = ap suc (one_each runs.0 new blocks answers runs.2)
  one_each old new [] (answer ∷ answers) runs = absurd runs
  one_each old new (bytes ∷ blocks) [] runs = absurd runs
