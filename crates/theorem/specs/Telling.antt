-- Runs whose answers are passed to a function of the caller, which may end them.
use Rattle.std.specs.Prelude.{◌≡◌, ℕ, Bool, true, false, List, ◌∷◌, ◌++◌, map, Result, MatchBool}
use Rattle.std.specs.List.{FoldsTo}
use Rattle.policy_eval.specs.Accepts.{Accepts}
use Rattle.rules.specs.declared.answer.Accepted.{Accepted}
use Rattle.commit.specs.declared.not_committed.NotCommitted.{NotCommitted}
use Rattle.theorem.specs.Promise.{Shown, Submits, Runs}

-- What a call of the function may do: the function before it, its argument, whether the run goes on, the function after
-- it.
abbrev pub Calls : Type 0 → Type 0 → Type 1
Calls F A = F → A → Bool → F → Type 0

-- All of these byte strings were submitted. The function was called with each answer in turn, which its argument holds,
-- and each time had the run go on.
pub record IsRun {F A : Type 0} (answer_in : A → Result Accepted NotCommitted) (call : Calls F A) (accepts : Accepts) (old : Shown) (blocks : List (List ℕ)) (f : F) (new : Shown) (f' : F) : Type 0 where
  pub arguments : List A
  pub runs : Runs accepts old blocks (map answer_in arguments) new
  pub calls : FoldsTo (λ g argument h. call g argument true h) f arguments f'

-- The byte strings up to one were submitted, and the function ended the run at the answer to that one. The rest wasn't.
pub record IsEndedRun {F A : Type 0} (answer_in : A → Result Accepted NotCommitted) (call : Calls F A) (accepts : Accepts) (old : Shown) (blocks : List (List ℕ)) (f : F) (new : Shown) (f' : F) : Type 0 where
  pub before : List (List ℕ)
  pub bytes : List ℕ
  pub rest : List (List ℕ)
  pub all : blocks ≡ before ++ bytes ∷ rest
  pub mid : Shown
  pub g : F
  pub run : IsRun answer_in call accepts old before f mid g
  pub argument : A
  pub submits : Submits accepts mid bytes (answer_in argument) new
  pub ends : call g argument false f'

-- a run of all byte strings, or one that the function ended
abbrev pub RunsTelling : {F A : Type 0} → (A → Result Accepted NotCommitted) → Calls F A → Accepts → Shown → List (List ℕ) → F → Bool → Shown → F → Type 0
RunsTelling answer_in call accepts old blocks f is_all new f' =
    MatchBool is_all (IsRun answer_in call accepts old blocks f new f') (IsEndedRun answer_in call accepts old blocks f new f')
