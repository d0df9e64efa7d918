-- A mark that is set stays set, and one that isn't set after wasn't before.
use Rattle.std.proofs.Common.{◌≡◌, ℕ, zero, suc, List, [], ◌∷◌, Bool, true, false, cond, Option, Some, None, refl}
use Rattle.std.specs.Prelude.{slice_get, slice_set}
use Rattle.transaction.specs.declared.identity.Identity.{Identity}
use Rattle.policy.specs.Tree.{Tree, Trees, principal, gate, none, more}
use Rattle.policy_eval.specs.Evaluation.{first_free}
use Rattle.policy_eval.specs.Evaluating.{taken, evaluate, evaluate_all}

-- from the marks before to those after
pub record AreKept (before after : List Bool) : Type 0 where
  pub kept : (k : ℕ) → slice_get before k ≡ Some true → slice_get after k ≡ Some true
  pub unused : (k : ℕ) → slice_get after k ≡ Some false → slice_get before k ≡ Some false

pub same_kept : (used : List Bool) → AreKept used used
same_kept used = record { kept = λ k e. e; unused = λ k e. e }

pub then_kept : (a b c : List Bool) → AreKept a b → AreKept b c → AreKept a c
then_kept a b c g h = record { kept = λ k e. h.kept k (g.kept k e); unused = λ k e. g.unused k (h.unused k e) }

set_keeps : (used : List Bool) (i k : ℕ) → slice_get used k ≡ Some true → slice_get (slice_set used i true) k ≡ Some true
set_keeps [] i k e = absurd cc
set_keeps (u ∷ used) zero zero e = refl
set_keeps (u ∷ used) zero (suc k) e = e
set_keeps (u ∷ used) (suc i) zero e = e
set_keeps (u ∷ used) (suc i) (suc k) e = set_keeps used i k e

set_unused : (used : List Bool) (i k : ℕ) → slice_get (slice_set used i true) k ≡ Some false → slice_get used k ≡ Some false
set_unused [] i k e = absurd cc
set_unused (u ∷ used) zero zero e = absurd cc
set_unused (u ∷ used) zero (suc k) e = e
set_unused (u ∷ used) (suc i) zero e = e
set_unused (u ∷ used) (suc i) (suc k) e = set_unused used i k e

-- what is taken is marked
pub set_marks : (used : List Bool) (i : ℕ) → slice_get used i ≡ Some false → slice_get (slice_set used i true) i ≡ Some true
set_marks [] i e = absurd cc
set_marks (u ∷ used) zero e = refl
set_marks (u ∷ used) (suc i) e = set_marks used i e

taken_kept : (used : List Bool) (place : Option ℕ) → AreKept used (taken used place).1
taken_kept used None = same_kept used
taken_kept used (Some i) = record { kept = set_keeps used i; unused = set_unused used i }

gate_kept : (used last : List Bool) → AreKept used last → (b : Bool) → AreKept used (cond {A = Bool × List Bool} b (true, last) (false, used)).1
gate_kept used last h true = h
gate_kept used last h false = same_kept used

mutual
  pub evaluate_kept : (t : Tree) (signers : List Identity) (used : List Bool) → AreKept used (evaluate t signers used).1
  evaluate_kept (principal org role) signers used = taken_kept used (first_free org role signers used)
  evaluate_kept (gate n members) signers used = gate_kept used (evaluate_all members signers used).1 (evaluate_all_kept members signers used) _

  pub evaluate_all_kept : (ts : Trees) (signers : List Identity) (used : List Bool) → AreKept used (evaluate_all ts signers used).1
  evaluate_all_kept none signers used = same_kept used
  evaluate_all_kept (more t ts) signers used =
      then_kept used (evaluate t signers used).1 _ (evaluate_kept t signers used) (evaluate_all_kept ts signers (evaluate t signers used).1)
