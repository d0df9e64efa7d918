-- The operation that set a row last is that of the last candidate that wrote it.
use Rattle.std.proofs.Common.{◌≡◌, ℕ, zero, suc, ◌<◌, ◌≤◌, Bool, true, false, cond, not, ◌&&◌, ◌||◌, List, ◌++◌, All, Option, Some, None, is_some, refl, ap, ◌∙◌, arith}
use Rattle.std.specs.Prelude.{option_map, option_to_list}
use Rattle.std.specs.FinMap.{get}
use Rattle.std.proofs.lemmas.List.Elements.{All-nil, All-cons}
use Rattle.transaction.specs.declared.transaction.Version.{Version}
use Rattle.transaction.specs.declared.transaction.Write.{Write}
use Rattle.transaction.specs.declared.transaction.PolicyWrite.{PolicyWrite}
use Rattle.rules.specs.declared.row.Row.{Row}
use Rattle.rules.specs.Flags.{is_valid}
use Rattle.rules.specs.State.{StateKey}
use Rattle.rules.specs.Effect.{write_of, policy_write_of, row_after}
use Rattle.rules.specs.Candidate.{Candidate, flagged, opened, updates}
use Rattle.rules.specs.Job.{Job, candidate_at, version_of, state_after}
use Rattle.rules.specs.Fold.{running, flag}
use Rattle.rules.proofs.Booleans.{or-true}
use Rattle.rules.proofs.PerKey.{row_by, get-state_by}
use Rattle.key_chains.specs.declared.operation.Kind.{Kind}
use Rattle.key_chains.specs.declared.operation.Operation.{Operation}
use Rattle.key_chains.specs.Operations.{value_kind, kind_from, kind_by, operations}
use Rattle.reasons.specs.First.{last_below}
use Rattle.reasons.specs.Reads.{sets_row, writes_row}
use Rattle.reasons_from_state.specs.Writers.{is_policy, sets, last_setter}

-- ---- the operations are of earlier candidates

one_earlier : (i n : ℕ) → n < i → (kind : Option Kind) (rest : List Operation) → All (λ o. o.tx < i) rest → All (λ o. o.tx < i) (option_to_list (option_map (λ x. record { tx = n; kind = x }) kind) ++ rest)
one_earlier i n lt None rest all = all
one_earlier i n lt (Some kind) rest all = All-cons (λ o. o.tx < i) (record { tx = n; kind = kind }) rest lt all

earlier_to : (j : Job) (k : StateKey) (i n : ℕ) → n ≤ i → All (λ o. o.tx < i) (operations j.candidates k n)
unfolding operations
earlier_to j k i zero le = All-nil (λ (o : Operation). o.tx < i)
earlier_to j k i (suc n) le = one_earlier i n le (kind_by (candidate_at j n) k) (operations j.candidates k n) (earlier_to j k i n (omega arith))

pub earlier_operations : (j : Job) (k : StateKey) (i : ℕ) → All (λ o. o.tx < i) (operations j.candidates k i)
earlier_operations j k i = earlier_to j k i i (omega arith)

-- ---- one candidate

module _ (valid : ℕ → Bool) (n : ℕ) (v : Version) (rest : List Operation) (last : Option ℕ) where
  abbrev on_top : Option Kind → List Operation
  on_top kind = option_to_list (option_map (λ x. record { tx = n; kind = x }) kind) ++ rest

  no_policy : (value : Option (List ℕ)) → not (is_policy (value_kind value)) ≡ true
  no_policy None = refl
  no_policy (Some x) = refl

  by_writes : valid n ≡ true → (w : Option Write) (p : Option PolicyWrite) (row : Option Row) → last_setter valid (is_some row) rest ≡ last
      → last_setter valid (is_some (row_after v w p row)) (on_top (kind_from w p)) ≡ cond (is_some w || (is_some p && is_some row)) (Some n) last
  by_writes ok (Some w) p row before =
      let there : Bool = is_some (row_after v (Some w) p row) in
      let set : sets valid there (record { tx = n; kind = value_kind w.value }) ≡ true = (λ t. ok t && (there || no_policy w.value t)) ∙ or-true there in
      ap (λ (b : Bool). cond b (Some n) (last_setter valid there rest)) set
  by_writes ok None (Some p) (Some r) before = ap (λ (b : Bool). cond (b && true) (Some n) (last_setter valid true rest)) ok
  by_writes ok None (Some p) None before = ap (λ (b : Bool). cond (b && false) (Some n) (last_setter valid false rest)) ok ∙ before
  by_writes ok None None row before = before

  by_valid : valid n ≡ true → (c : Candidate) (k : StateKey) (row : Option Row) → last_setter valid (is_some row) rest ≡ last
      → last_setter valid (is_some (row_by v c k row)) (on_top (kind_by c k)) ≡ cond (sets_row c k row) (Some n) last
  by_valid ok (flagged f) k row before = before
  by_valid ok (updates u signers) k row before = before
  by_valid ok (opened tx signers) k row before = by_writes ok (write_of tx k) (policy_write_of tx k) row before

  by_invalid : valid n ≡ false → (kind : Option Kind) (there : Bool) → last_setter valid there rest ≡ last → last_setter valid there (on_top kind) ≡ last
  by_invalid fails None there before = before
  by_invalid fails (Some kind) there before = ap (λ (b : Bool). cond (b && (there || not (is_policy kind))) (Some n) (last_setter valid there rest)) fails ∙ before

-- ---- all of them

set_before : (j : Job) (k : StateKey) (i : ℕ) → last_setter (λ h. is_valid (flag j h)) (is_some (get (running j i).state k)) (operations j.candidates k i) ≡ last_below (writes_row j k) i
unfolding running operations last_below
set_before j k zero = refl
set_before j k (suc n) = by (is_valid (flag j n)) refl (set_before j k n)
  where
    valid : ℕ → Bool
    valid h = is_valid (flag j h)

    by : (b : Bool) → is_valid (flag j n) ≡ b → last_setter (λ h. is_valid (flag j h)) (is_some (get (running j n).state k)) (operations j.candidates k n) ≡ last_below (writes_row j k) n
        → last_setter (λ h. is_valid (flag j h)) (is_some (get (cond b (state_after j n (running j n).state) (running j n).state) k)) (option_to_list (option_map (λ x. record { tx = n; kind = x }) (kind_by (candidate_at j n) k)) ++ operations j.candidates k n)
        ≡ cond (b && sets_row (candidate_at j n) k (get (running j n).state k)) (Some n) (last_below (writes_row j k) n)
    by true e before =
        ap (λ (row : Option Row). last_setter (λ h. is_valid (flag j h)) (is_some row) (option_to_list (option_map (λ x. record { tx = n; kind = x }) (kind_by (candidate_at j n) k)) ++ operations j.candidates k n))
        (get-state_by (version_of j n) (candidate_at j n) (running j n).state k)
        ∙ by_valid (λ h. is_valid (flag j h)) n (version_of j n) (operations j.candidates k n) (last_below (writes_row j k) n) e (candidate_at j n) k (get (running j n).state k) before
    by false e before =
        by_invalid (λ h. is_valid (flag j h)) n (version_of j n) (operations j.candidates k n) (last_below (writes_row j k) n) e (kind_by (candidate_at j n) k) (is_some (get (running j n).state k)) before

pub set_last : (j : Job) (k : StateKey) (i : ℕ) (there : Bool) → there ≡ is_some (get (running j i).state k) → last_setter (λ h. is_valid (flag j h)) there (operations j.candidates k i) ≡ last_below (writes_row j k) i
set_last j k i there is = ap (λ (b : Bool). last_setter (λ h. is_valid (flag j h)) b (operations j.candidates k i)) is ∙ set_before j k i
