-- A run whose answers are told goes on by one string of bytes, or ends at it; and what a function keeps at each answer stays.
use Rattle.std.proofs.Common.{◌≡◌, ◌++◌, ◌∷◌, ◌+◌, ◌<◌, ◌∙◌, ℕ, Bool, true, false, List, [], Result, length, get_or, take, drop, sym, ap, subst, append_assoc}
use Rattle.std.specs.List.{FoldsTo}
use Rattle.std.proofs.lemmas.Fn.{FoldsTo-push}
use Rattle.std.proofs.lemmas.List.{take_more, take-append-drop}
use Rattle.policy_eval.specs.Accepts.{Accepts}
use Rattle.query.specs.declared.receipt.Receipt.{Receipt}
use Rattle.commit.specs.declared.not_committed.NotCommitted.{NotCommitted}
use Rattle.commit.specs.Committing.{Committing, Submits}
use Rattle.commit.specs.Telling.{Steps, IsRun, IsEndedRun, RunsTelling}
use Rattle.commit.proofs.Runs.{Runs-push}

abbrev Answer : Type 0
Answer = Result Receipt NotCommitted

module _ {F : Type 0} (step : Steps F) (accepts : Accepts) where
  pub IsRun-more : (old mid new : Committing) (blocks : List (List ℕ)) (i : ℕ) (item : List ℕ) (f g h : F) (answer : Answer)
      → i < length blocks → item ≡ get_or blocks i item
      → IsRun step accepts old (take i blocks) f mid g → Submits accepts mid item answer new → step g answer true h
      → IsRun step accepts old (take (i + 1) blocks) f new h
  IsRun-more old mid new blocks i item f g h answer lt at run submits asks =
      let more : take (i + 1) blocks ≡ take i blocks ++ item ∷ [] = take_more blocks i item lt ∙ ap (λ (b : List ℕ). take i blocks ++ b ∷ []) (sym at) in
      subst (λ (bs : List (List ℕ)). IsRun step accepts old bs f new h) (sym more) (record {
        answers = run.answers ++ answer ∷ [];
        runs = Runs-push accepts old mid new (take i blocks) run.answers item answer run.runs submits;
        told = FoldsTo-push (λ p a q. step p a true q) f run.answers g answer h run.told asks;
      })

  pub IsEndedRun-at : (old mid new : Committing) (blocks : List (List ℕ)) (i : ℕ) (item : List ℕ) (f g h : F) (answer : Answer)
      → i < length blocks → item ≡ get_or blocks i item
      → IsRun step accepts old (take i blocks) f mid g → Submits accepts mid item answer new → step g answer false h
      → IsEndedRun step accepts old blocks f new h
  IsEndedRun-at old mid new blocks i item f g h answer lt at run submits ends =
      let more : take (i + 1) blocks ≡ take i blocks ++ item ∷ [] = take_more blocks i item lt ∙ ap (λ (b : List ℕ). take i blocks ++ b ∷ []) (sym at) in
      record {
        before = take i blocks;
        bytes = item;
        behind = drop (i + 1) blocks;
        whole = sym (take-append-drop (i + 1) blocks) ∙ (ap (λ (bs : List (List ℕ)). bs ++ drop (i + 1) blocks) more ∙ append_assoc (take i blocks) (item ∷ []) (drop (i + 1) blocks));
        mid = mid;
        asking = g;
        run = run;
        answer = answer;
        submits = submits;
        ends = ends;
      }

module _ {F X : Type 0} (step : Steps F) (part : F → X) (keeps : (p : F) (answer : Answer) (asks : Bool) (q : F) → step p answer asks q → part q ≡ part p) where
  FoldsTo-kept : (answers : List Answer) (p q : F) → FoldsTo (λ p answer q. step p answer true q) p answers q → part q ≡ part p
  FoldsTo-kept [] p q folds = sym (ap part folds)
  FoldsTo-kept (answer ∷ answers) p q folds = FoldsTo-kept answers folds.0 q folds.2 ∙ keeps p answer true folds.0 folds.1

  pub RunsTelling-kept : (accepts : Accepts) (old new : Committing) (blocks : List (List ℕ)) (f f' : F) (all : Bool) → RunsTelling step accepts old blocks f all new f' → part f' ≡ part f
  RunsTelling-kept accepts old new blocks f f' true told = FoldsTo-kept told.answers f f' told.told
  RunsTelling-kept accepts old new blocks f f' false told = keeps told.asking told.answer false f' told.ends ∙ FoldsTo-kept told.run.answers f told.asking told.run.told
