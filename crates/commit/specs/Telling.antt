-- Runs whose answers are told to a function as they come.
use Rattle.std.specs.Prelude.{◌≡◌, ℕ, Bool, true, false, List, ◌∷◌, ◌++◌, Result, MatchBool}
use Rattle.std.specs.List.{FoldsTo}
use Rattle.policy_eval.specs.Accepts.{Accepts}
use Rattle.query.specs.declared.receipt.Receipt.{Receipt}
use Rattle.commit.specs.declared.not_committed.NotCommitted.{NotCommitted}
use Rattle.commit.specs.Committing.{Committing, Submits, Runs}

-- What a function may make of one answer: what it was before, the answer, whether it asks for the next one, what it is then.
abbrev pub Steps : Type 0 → Type 1
Steps F = F → Result Receipt NotCommitted → Bool → F → Type 0

-- These strings were handed in one after the other. A function was told of their answers in that order, and asked for the next
-- one each time.
pub record IsRun {F : Type 0} (step : Steps F) (accepts : Accepts) (old : Committing) (blocks : List (List ℕ)) (f : F) (new : Committing) (f' : F) : Type 0 where
  pub answers : List (Result Receipt NotCommitted)
  pub runs : Runs accepts old blocks answers new
  pub told : FoldsTo (λ p answer q. step p answer true q) f answers f'

-- Those up to one were handed in so, and that one, at whose answer it asked for no other. Those behind it were not handed in.
pub record IsEndedRun {F : Type 0} (step : Steps F) (accepts : Accepts) (old : Committing) (blocks : List (List ℕ)) (f : F) (new : Committing) (f' : F) : Type 0 where
  pub before : List (List ℕ)
  pub bytes : List ℕ
  pub behind : List (List ℕ)
  pub whole : blocks ≡ before ++ bytes ∷ behind
  pub mid : Committing
  pub asking : F
  pub run : IsRun step accepts old before f mid asking
  pub answer : Result Receipt NotCommitted
  pub submits : Submits accepts mid bytes answer new
  pub ends : step asking answer false f'

-- all of these strings were handed in, or the function ended the run
abbrev pub RunsTelling : {F : Type 0} → Steps F → Accepts → Committing → List (List ℕ) → F → Bool → Committing → F → Type 0
RunsTelling step accepts old blocks f all new f' = MatchBool all (IsRun step accepts old blocks f new f') (IsEndedRun step accepts old blocks f new f')
