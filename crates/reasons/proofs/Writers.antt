-- What the last writer of a row left.
use Rattle.std.proofs.Common.{◌≡◌, ℕ, zero, suc, Bool, true, false, cond, ◌&&◌, ◌||◌, List, Option, Some, None, is_some, option_map, IfSome, refl, sym, ap, subst, ◌∙◌}
use Rattle.std.specs.FinMap.{get}
use Rattle.transaction.specs.declared.transaction.PolicyWrite.{PolicyWrite}
use Rattle.transaction.specs.declared.transaction.Write.{Write}
use Rattle.rules.specs.declared.row.Row.{Row}
use Rattle.rules.specs.Flags.{is_valid}
use Rattle.rules.specs.State.{StateKey}
use Rattle.rules.specs.Effect.{write_of, policy_write_of, policy_after, row_after}
use Rattle.rules.specs.Candidate.{Candidate, flagged, opened, updates}
use Rattle.rules.specs.Job.{Job, candidate_at, version_of, state_after}
use Rattle.rules.specs.Fold.{running, flag}
use Rattle.rules.proofs.PerKey.{row_by, get-state_by}
use Rattle.reasons.specs.First.{last_below}
use Rattle.reasons.specs.Reads.{sets_row, writes_row}

-- a row that has this version, or none; and without a writer the row before the block
abbrev pub IsLeft : Job → StateKey → Option ℕ → Option Row → Type 0
IsLeft j k None row = row ≡ get j.state k
IsLeft j k (Some h) row = IfSome row (λ r. r.version ≡ version_of j h)

module _ (j : Job) (k : StateKey) (i : ℕ) where
  -- a value that is written, if there is one
  value_left : (value : Option (List ℕ)) (p : Option PolicyWrite) (row : Option Row)
      → IsLeft j k (Some i) (option_map (λ x. record { value = x; version = version_of j i; policy = policy_after p row }) value)
  value_left None p row = tt
  value_left (Some x) p row = refl

  -- by one valid transaction
  row_left : (before : Option ℕ) (w : Option Write) (p : Option PolicyWrite) (row : Option Row) → IsLeft j k before row
      → IsLeft j k (cond (is_some w || (is_some p && is_some row)) (Some i) before) (row_after (version_of j i) w p row)
  row_left before (Some w) p row h = value_left w.value p row
  row_left before None (Some p) (Some r) h = refl
  row_left before None (Some p) None h = h
  row_left before None None row h = h

  candidate_left : (before : Option ℕ) (c : Candidate) (row : Option Row) → IsLeft j k before row → IsLeft j k (cond (sets_row c k row) (Some i) before) (row_by (version_of j i) c k row)
  candidate_left before (flagged f) row h = h
  candidate_left before (updates u signers) row h = h
  candidate_left before (opened tx signers) row h = row_left before (write_of tx k) (policy_write_of tx k) row h

  step_left : (b : Bool) (before : Option ℕ) → IsLeft j k before (get (running j i).state k)
      → IsLeft j k (cond (b && sets_row (candidate_at j i) k (get (running j i).state k)) (Some i) before) (get (cond b (state_after j i (running j i).state) (running j i).state) k)
  step_left true before h =
      subst (IsLeft j k (cond (sets_row (candidate_at j i) k (get (running j i).state k)) (Some i) before)) (sym (get-state_by (version_of j i) (candidate_at j i) (running j i).state k))
      (candidate_left before (candidate_at j i) (get (running j i).state k) h)
  step_left false before h = h

pub left_by : (j : Job) (k : StateKey) (i : ℕ) → IsLeft j k (last_below (writes_row j k) i) (get (running j i).state k)
unfolding running last_below
left_by j k zero = refl
left_by j k (suc i) = step_left j k i (is_valid (flag j i)) (last_below (writes_row j k) i) (left_by j k i)

-- ---- versions

pub unwritten_version : (j : Job) (k : StateKey) (o : Option ℕ) (row : Option Row) → IsLeft j k o row → o ≡ None → option_map (λ r. r.version) row ≡ option_map (λ r. r.version) (get j.state k)
unwritten_version j k None row h e = ap (option_map (λ (r : Row). r.version)) h
unwritten_version j k (Some h) row left e = absurd cc

pub written_version : (j : Job) (k : StateKey) (o : Option ℕ) (row : Option Row) (h : ℕ) → IsLeft j k o row → o ≡ Some h → IfSome (option_map (λ r. r.version) row) (λ v. v ≡ version_of j h)
written_version j k None row h left e = absurd cc
written_version j k (Some g) None h left e = tt
written_version j k (Some g) (Some r) h left e = let same : g ≡ h = cc in left ∙ ap (version_of j) same
