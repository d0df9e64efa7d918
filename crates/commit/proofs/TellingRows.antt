-- Rows of runs that tell a function, over a committer that has stopped: it answers `Stopped` to every string.
use Rattle.std.proofs.Common.{◌≡◌, ◌∷◌, ◌+◌, ◌<◌, ◌≤◌, ℕ, true, false, List, [], Result, Err, length, refl, subst, arith}
use Rattle.std.specs.List.{FoldsTo}
use Rattle.policy_eval.specs.Accepts.{Accepts}
use Rattle.query.specs.declared.receipt.Receipt.{Receipt}
use Rattle.commit.specs.declared.not_committed.NotCommitted.{NotCommitted}
use Rattle.commit.specs.declared.not_committed.NotCommitted.TheVariants.{Stopped}
use Rattle.commit.specs.Committing.{Committing}
use Rattle.commit.specs.Telling.{Steps, RunsTelling}
use Rattle.commit.proofs.Runs.{one_each}

-- a function that counts the answers, and asks for two
abbrev counts : Steps ℕ
counts n answer asks m = (m ≡ n + 1) × (asks ≡ true → m < 2) × (asks ≡ false → 2 ≤ m)

counted : (answers : List (Result Receipt NotCommitted)) (n m : ℕ) → FoldsTo (λ p answer q. counts p answer true q) n answers m → m ≡ n + length answers
counted [] n m folds = omega (arith, folds)
counted (answer ∷ answers) n m folds = omega (arith, counted answers folds.0 m folds.2, folds.1.0)

asking : (answers : List (Result Receipt NotCommitted)) (n m : ℕ) → n < 2 → FoldsTo (λ p answer q. counts p answer true q) n answers m → m < 2
asking [] n m few folds = subst (λ k. k < 2) folds few
asking (answer ∷ answers) n m few folds = asking answers folds.0 m (folds.1.1 refl) folds.2

module _ (accepts : Accepts) (c : Committing) (has_stopped : c.stopped ≡ true) (x y z : List ℕ) where
  one_of_one : RunsTelling counts accepts c (x ∷ []) 0 true c 1
  one_of_one = record { answers = Err Stopped ∷ []; runs = (c, (has_stopped, refl), refl); told = (1, (refl, (λ _. omega arith), (λ e. absurd cc)), refl) }

  -- the third string isn't handed in
  two_of_three : RunsTelling counts accepts c (x ∷ y ∷ z ∷ []) 0 false c 2
  two_of_three = record {
    before = x ∷ [];
    bytes = y;
    behind = z ∷ [];
    whole = refl;
    mid = c;
    asking = 1;
    run = one_of_one;
    answer = Err Stopped;
    submits = (has_stopped, refl);
    ends = (refl, (λ e. absurd cc), (λ _. omega arith));
  }

  -- a run isn't whole whose function asked for no more
  not_two_of_two : (n : ℕ) (new : Committing) → RunsTelling counts accepts c (x ∷ y ∷ []) 0 true new n → ⊥
  not_two_of_two n new run = omega (arith, counted run.answers 0 n run.told, one_each accepts c new (x ∷ y ∷ []) run.answers run.runs, asking run.answers 0 n (omega arith) run.told)

  -- no answer is told that wasn't asked for, and none is left out
  ends_at_two : (n : ℕ) (new : Committing) → RunsTelling counts accepts c (x ∷ y ∷ z ∷ []) 0 false new n → n ≡ 2
  ends_at_two n new run = omega (arith, run.ends.0, run.ends.2 refl, asking run.run.answers 0 run.asking (omega arith) run.run.told)

  tells_one_of_one : (n : ℕ) (new : Committing) → RunsTelling counts accepts c (x ∷ []) 0 true new n → n ≡ 1
  tells_one_of_one n new run = omega (arith, counted run.answers 0 n run.told, one_each accepts c new (x ∷ []) run.answers run.runs)
