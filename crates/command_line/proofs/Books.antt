-- A committer stays that of its handles while blocks are handed in, and its receipts are for them.
use Rattle.std.proofs.Common.{◌≡◌, ℕ, List, [], ◌∷◌, Result, Ok, Err, IfOk, ap, subst, ◌∙◌}
use Rattle.std.specs.List.{All}
use Rattle.std.proofs.lemmas.List.Elements.{All-nil, All-cons}
use Rattle.policy_eval.specs.Accepts.{Accepts}
use Rattle.logbook.specs.Pages.{Book}
use Rattle.query.specs.declared.receipt.Receipt.{Receipt}
use Rattle.commit.specs.declared.not_committed.NotCommitted.{NotCommitted}
use Rattle.commit.specs.declared.not_committed.NotCommitted.TheVariants.{Refused, MemoryInCommit, Stopped}
use Rattle.commit.specs.Committing.{Committing, Submits, Runs}

-- a receipt is for the handles of a book
abbrev pub IsFor : Book → Result Receipt NotCommitted → Type 0
IsFor book answer = IfOk answer (λ r. r.front.book ≡ book)

module _ (accepts : Accepts) where
  keeps_one : (old new : Committing) (bytes : List ℕ) (answer : Result Receipt NotCommitted) → Submits accepts old bytes answer new → new.book ≡ old.book
  keeps_one old new bytes (Ok r) h = ap (λ (c : Committing). c.book) h.published
  keeps_one old new bytes (Err (Refused refused)) h = ap (λ (c : Committing). c.book) h.2
  keeps_one old new bytes (Err MemoryInCommit) h = ap (λ (c : Committing). c.book) h.2
  keeps_one old new bytes (Err Stopped) h = ap (λ (c : Committing). c.book) h.1

  is_for_one : (old new : Committing) (bytes : List ℕ) (answer : Result Receipt NotCommitted) → Submits accepts old bytes answer new → IsFor old.book answer
  is_for_one old new bytes (Ok r) h = ap (λ w. w.book) h.told ∙ keeps_one old new bytes (Ok r) h
  is_for_one old new bytes (Err e) h = tt

  pub keeps : (old new : Committing) (blocks : List (List ℕ)) (answers : List (Result Receipt NotCommitted)) → Runs accepts old blocks answers new → new.book ≡ old.book
  keeps old new [] [] runs = ap (λ (c : Committing). c.book) runs
  keeps old new (bytes ∷ blocks) (answer ∷ answers) runs = keeps runs.0 new blocks answers runs.2 ∙ keeps_one old runs.0 bytes answer runs.1
  keeps old new [] (answer ∷ answers) runs = absurd runs
  keeps old new (bytes ∷ blocks) [] runs = absurd runs

  pub are_for : (old new : Committing) (blocks : List (List ℕ)) (answers : List (Result Receipt NotCommitted)) → Runs accepts old blocks answers new → All (IsFor old.book) answers
  are_for old new [] [] runs = All-nil (IsFor old.book)
  are_for old new (bytes ∷ blocks) (answer ∷ answers) runs =
      All-cons (IsFor old.book) answer answers (is_for_one old runs.0 bytes answer runs.1)
      (subst (λ (book : Book). All (IsFor book) answers) (keeps_one old runs.0 bytes answer runs.1) (are_for runs.0 new blocks answers runs.2))
  are_for old new [] (answer ∷ answers) runs = absurd runs
  are_for old new (bytes ∷ blocks) [] runs = absurd runs
