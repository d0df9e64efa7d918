-- Verdicts under an assignment, and what is sure where only some verdicts are known.
use Rattle.std.proofs.Common.{◌≡◌, ℕ, zero, suc, List, cond, Bool, true, false, [], ◌∷◌, Option, Some, None, refl, sym, ◌∙◌, arith}
use Rattle.rules.specs.declared.read_verdict.ReadVerdict.{ReadVerdict}
use Rattle.rules.specs.declared.read_verdict.ReadVerdict.TheVariants.{Good, Stale}
use Rattle.rules.specs.Assignment.{Assignment, touched_under, endorsement_under, state_under, reads_under, version_under}
use Rattle.rules.specs.Machine.{known}
use Rattle.rules.specs.Sure.{Agrees, Sure}
use Rattle.std.specs.FinMap.{get}
use Rattle.rules.specs.declared.row.Row.{Row}
use Rattle.rules.specs.State.{StateKey, State, with_changes}
use Rattle.rules.specs.Job.{Job}
use Rattle.rules.proofs.rows.Shared.{chaincode, k, at, read_at, put, policy_put, reading, writing, writing_policy, one, block_over, documentation_block}
use Rattle.rules.proofs.rows.Looks.{looks}

-- k is absent; the first one inserts it, the second one writes its policy alone, the third one reads what that left
abbrev inserted_then_policy : Job
inserted_then_policy = block_over [] (one (writing (put k ∷ [])) ∷ one (writing_policy (policy_put k)) ∷ one (reading (read_at k (at 1 1) ∷ [])) ∷ [])

-- the first two are called so
abbrev calls : Bool → Bool → Assignment
calls first second zero = first
calls first second (suc i) = second

-- and whatever is called so
module _ (called : Assignment) where
  pub read_where_both_are_valid : called 0 ≡ true → called 1 ≡ true → reads_under inserted_then_policy called 2 ≡ Good
  unfolding state_under with_changes
  read_where_both_are_valid first second = simp (first, second, looks) refl

  pub read_where_the_insert_is_invalid : called 0 ≡ false → called 1 ≡ true → reads_under inserted_then_policy called 2 ≡ Stale
  unfolding state_under with_changes
  read_where_the_insert_is_invalid first second = simp (first, second, looks) refl

  pub read_where_the_policy_write_is_invalid : called 0 ≡ true → called 1 ≡ false → reads_under inserted_then_policy called 2 ≡ Stale
  unfolding state_under with_changes
  read_where_the_policy_write_is_invalid first second = simp (first, second, looks) refl

  pub version_where_both_are_valid : called 0 ≡ true → called 1 ≡ true → version_under inserted_then_policy (chaincode, k) called 2 ≡ Some (at 1 1)
  unfolding state_under with_changes
  version_where_both_are_valid first second = simp (first, second, looks) refl

-- ---- what is sure

abbrev known_as : Option Bool → Option Bool → ℕ → Option Bool
known_as first second = known (first ∷ second ∷ [])

pub both_valid : Sure (reads_under inserted_then_policy) (known_as (Some true) (Some true)) 2 Good
both_valid called agrees = read_where_both_are_valid called (agrees 0 true (omega arith) refl) (agrees 1 true (omega arith) refl)

pub version_of_both_valid : Sure (version_under inserted_then_policy (chaincode, k)) (known_as (Some true) (Some true)) 2 (Some (at 1 1))
version_of_both_valid called agrees = version_where_both_are_valid called (agrees 0 true (omega arith) refl) (agrees 1 true (omega arith) refl)

pub insert_invalid : Sure (reads_under inserted_then_policy) (known_as (Some false) (Some true)) 2 Stale
insert_invalid called agrees = read_where_the_insert_is_invalid called (agrees 0 false (omega arith) refl) (agrees 1 true (omega arith) refl)

pub policy_write_invalid : Sure (reads_under inserted_then_policy) (known_as (Some true) (Some false)) 2 Stale
policy_write_invalid called agrees = read_where_the_policy_write_is_invalid called (agrees 0 true (omega arith) refl) (agrees 1 false (omega arith) refl)

-- with the insert unknown two assignments agree with what is known
pub both_agree : (first : Bool) → Agrees (known_as None (Some true)) 2 (calls first true)
both_agree first zero b small e = absurd cc
both_agree first (suc zero) b small e = cc
both_agree first (suc (suc i)) b small e = absurd (omega (arith, small))

-- and give two verdicts, so no verdict is sure
pub insert_unknown : (v : ReadVerdict) → Sure (reads_under inserted_then_policy) (known_as None (Some true)) 2 v → ⊥
insert_unknown v sure =
    let yes_verdict : Good ≡ v = sym (read_where_both_are_valid (calls true true) refl refl) ∙ sure (calls true true) (both_agree true) in
    let no_verdict : Stale ≡ v = sym (read_where_the_insert_is_invalid (calls false true) refl refl) ∙ sure (calls false true) (both_agree false) in
    absurd cc

-- ---- endorsements: the first one writes the policy of a key, the second one the key

abbrev policy_then_write : Job
policy_then_write = block_over (k ∷ []) (one (writing_policy (policy_put k)) ∷ one (writing (put k ∷ [])) ∷ [])

module _ (called : Assignment) where
  pub endorsement_where_the_policy_write_passed : called 0 ≡ true → endorsement_under policy_then_write called 1 ≡ false
  unfolding touched_under
  endorsement_where_the_policy_write_passed first = simp (first, looks) refl

  pub endorsement_where_the_policy_write_failed : called 0 ≡ false → endorsement_under policy_then_write called 1 ≡ true
  unfolding touched_under
  endorsement_where_the_policy_write_failed first = simp (first, looks) refl

-- with nothing known before it the first one's endorsement is sure
pub nothing_before_the_first : Sure (endorsement_under policy_then_write) (known []) 0 true
unfolding touched_under
nothing_before_the_first called agrees = simp looks refl

-- ---- the documentation's example with nothing known

-- a look-up goes into both branches, and branches that agree are one
get-branch : (b : Bool) (m n : State) (q : StateKey) → get (cond b m n) q ≡ cond b (get m q) (get n q)
get-branch true m n q = refl
get-branch false m n q = refl

one-row : (b : Bool) (x : Option Row) → cond b x x ≡ x
one-row true x = refl
one-row false x = refl

one-list : (b : Bool) (x : List StateKey) → cond b x x ≡ x
one-list true x = refl
one-list false x = refl

pub no_policy_is_written : Sure (endorsement_under documentation_block) (known []) 3 true
unfolding touched_under
no_policy_is_written called agrees = simp (one-list, looks) refl

pub nobody_writes_what_is_read : Sure (reads_under documentation_block) (known []) 4 Good
unfolding state_under with_changes
nobody_writes_what_is_read called agrees = simp (get-branch, one-row, looks) refl

module _ (called : Assignment) where
  pub read_where_the_writer_is_valid : called 0 ≡ true → reads_under documentation_block called 1 ≡ Stale
  unfolding state_under with_changes
  read_where_the_writer_is_valid first = simp (first, looks) refl

  pub read_where_the_writer_is_invalid : called 0 ≡ false → reads_under documentation_block called 1 ≡ Good
  unfolding state_under with_changes
  read_where_the_writer_is_invalid first = simp (first, looks) refl
