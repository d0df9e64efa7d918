-- The rows that a state has after the next candidate, and the history that its entries make.
use Rattle.std.proofs.Common.{◌≡◌, ℕ, suc, ◌+◌, Bool, true, false, cond, List, [], ◌++◌, Option, refl, sym, ap, ◌∙◌, inl, inr, arith}
use Rattle.std.specs.Prelude.{if◌then◌else◌}
use Rattle.std.specs.FinMap.{get}
use Rattle.std.proofs.lemmas.List.{append-nil}
use Rattle.transaction.specs.declared.transaction.Tx.{Tx}
use Rattle.transaction.specs.declared.transaction.Version.{Version}
use Rattle.rules.specs.declared.delta.NewEntry.{NewEntry}
use Rattle.rules.specs.declared.history.HistoryEntry.{HistoryEntry}
use Rattle.rules.specs.Delta.{entries_in}
use Rattle.rules.specs.History.{History, entries_of, with_entries}
use Rattle.rules.proofs.HistoryEntries.{with_entries-append}
use Rattle.rules.specs.declared.row.Row.{Row}
use Rattle.rules.specs.Flags.{is_valid}
use Rattle.rules.specs.State.{StateKey, State, is_among}
use Rattle.rules.specs.Effect.{written_keys, effect_at}
use Rattle.rules.specs.Candidate.{Candidate, opened}
use Rattle.rules.specs.Job.{Job, candidate_at, version_of, state_by, state_after, entries_by}
use Rattle.rules.specs.Fold.{running, flag, entries_to}
use Rattle.rules.proofs.Changes.{with_changes-none}
use Rattle.rules.proofs.Effects.{effect_at-unwritten}
use Rattle.rules.proofs.PerKey.{get-state_by}
use Rattle.candidates.specs.declared.open_tx.OpenTx.{OpenTx}
use Rattle.candidates.specs.declared.written_key.WrittenKey.{WrittenKey}
use Rattle.candidates.specs.Written.{AreWritesOf}
use Rattle.key_chains.specs.Job.{IsOpened, IsNoOpenTx}
use Rattle.effects.specs.Entries.{entries_written, MakeHistory}
use Rattle.effects.specs.Rows.{ShowRows}
use Rattle.effects.specs.WrittenRow.{with_writes}
use Rattle.effects.proofs.EntryOrder.{KeepKeys, Rise, written_history}
use Rattle.effects.proofs.WrittenKeys.{get-with_writes}

module _ (j : Job) (i : ℕ) where
  one_on : suc i ≡ i + 1
  one_on = omega arith

  -- ---- the state

  state-invalid : is_valid (flag j i) ≡ false → (running j i).state ≡ (running j (i + 1)).state
  unfolding running
  state-invalid e = sym (ap (λ (b : Bool). if b then state_after j i (running j i).state else (running j i).state) e) ∙ ap (λ n. (running j n).state) one_on

  state-valid : is_valid (flag j i) ≡ true → state_after j i (running j i).state ≡ (running j (i + 1)).state
  unfolding running
  state-valid e = sym (ap (λ (b : Bool). if b then state_after j i (running j i).state else (running j i).state) e) ∙ ap (λ n. (running j n).state) one_on

  pub shows-invalid : (rows : List (Option (Option Row))) → is_valid (flag j i) ≡ false → ShowRows j rows (running j i).state → ShowRows j rows (running j (i + 1)).state
  shows-invalid rows e h n k at = h n k at ∙ ap (λ (s : State). get s k) (state-invalid e)

  nothing_changed : (s : State) → IsNoOpenTx j i → state_after j i s ≡ s
  nothing_changed s (inl flagged) = ap (λ (c : Candidate). state_by (version_of j i) c s) flagged.1 ∙ with_changes-none s
  nothing_changed s (inr update) = ap (λ (c : Candidate). state_by (version_of j i) c s) update.2 ∙ with_changes-none s

  pub shows-nothing : (rows : List (Option (Option Row))) → is_valid (flag j i) ≡ true → IsNoOpenTx j i → ShowRows j rows (running j i).state → ShowRows j rows (running j (i + 1)).state
  shows-nothing rows e is h n k at = h n k at ∙ ap (λ (s : State). get s k) (sym (nothing_changed (running j i).state is) ∙ state-valid e)

  written_effect : KeepKeys → (tx : Tx) (ws : List WrittenKey) → AreWritesOf tx ws → (s : State) (k : StateKey) → get (with_writes (version_of j i) s ws) k ≡ effect_at (version_of j i) tx k (get s k)
  written_effect keep tx ws are s k =
      get-with_writes (version_of j i) tx s ws k are.each
      ∙ ap (λ (b : Bool). cond b (effect_at (version_of j i) tx k (get s k)) (get s k)) (ap (is_among k) are.keys ∙ keep k (written_keys tx))
      ∙ by (is_among k (written_keys tx)) refl
    where
      by : (b : Bool) → is_among k (written_keys tx) ≡ b → cond b (effect_at (version_of j i) tx k (get s k)) (get s k) ≡ effect_at (version_of j i) tx k (get s k)
      by true e = refl
      by false e = sym (effect_at-unwritten (version_of j i) tx k (get s k) e)

  pub shows-opened : (before after : List (Option (Option Row))) (o : OpenTx) → KeepKeys → is_valid (flag j i) ≡ true → IsOpened j i o
      → ((s : State) → ShowRows j before s → ShowRows j after (with_writes (version_of j i) s o.written.items)) → ShowRows j before (running j i).state → ShowRows j after (running j (i + 1)).state
  shows-opened before after o keep e is step h n k at =
      let s : State = (running j i).state in
      step s h n k at ∙ written_effect keep o.tx o.written.items o.writes s k ∙ sym (get-state_by (version_of j i) (opened o.tx o.signers) s k)
      ∙ ap (λ (c : Candidate). get (state_by (version_of j i) c s) k) (sym is)
      ∙ ap (λ (t : State). get t k) (state-valid e)

  -- ---- the history entries

  entries-next : (b : Bool) → is_valid (flag j i) ≡ b → (entries_to j i ++ (if b then entries_by (version_of j i) (candidate_at j i) else [])) ≡ entries_to j (i + 1)
  unfolding entries_to
  entries-next b e = sym (ap (λ (x : Bool). entries_to j i ++ (if x then entries_by (version_of j i) (candidate_at j i) else [])) e) ∙ ap (entries_to j) one_on

  pub entries-invalid : is_valid (flag j i) ≡ false → entries_to j i ≡ entries_to j (i + 1)
  entries-invalid e = sym (append-nil (entries_to j i)) ∙ entries-next false e

  no_entries : IsNoOpenTx j i → entries_by (version_of j i) (candidate_at j i) ≡ []
  no_entries (inl flagged) = ap (entries_by (version_of j i)) flagged.1
  no_entries (inr update) = ap (entries_by (version_of j i)) update.2

  pub entries-nothing : is_valid (flag j i) ≡ true → IsNoOpenTx j i → entries_to j i ≡ entries_to j (i + 1)
  entries-nothing e is = sym (append-nil (entries_to j i)) ∙ ap (λ (es : List (StateKey × HistoryEntry)). entries_to j i ++ es) (sym (no_entries is)) ∙ entries-next true e

  pub entries-opened : (o : OpenTx) → is_valid (flag j i) ≡ true → IsOpened j i o → entries_to j i ++ entries_by (version_of j i) (opened o.tx o.signers) ≡ entries_to j (i + 1)
  entries-opened o e is = ap (λ (c : Candidate). entries_to j i ++ entries_by (version_of j i) c) (sym is) ∙ entries-next true e

  pub makes-invalid : (es : List NewEntry) → is_valid (flag j i) ≡ false → MakeHistory j es i → MakeHistory j es (i + 1)
  makes-invalid es e makes h = makes h ∙ ap (with_entries h) (entries-invalid e)

  pub makes-nothing : (es : List NewEntry) → is_valid (flag j i) ≡ true → IsNoOpenTx j i → MakeHistory j es i → MakeHistory j es (i + 1)
  makes-nothing es e is makes h = makes h ∙ ap (with_entries h) (entries-nothing e is)

  pub makes-opened : (before after : List NewEntry) (o : OpenTx) → KeepKeys → Rise → is_valid (flag j i) ≡ true → IsOpened j i o
      → entries_in after ≡ entries_in before ++ entries_written (version_of j i) o.tx.id o.written.items → MakeHistory j before i → MakeHistory j after (i + 1)
  makes-opened before after o keep rise e is more makes h =
      let v : Version = version_of j i in
      let written = entries_written v o.tx.id o.written.items in
      ap (with_entries h) more ∙ with_entries-append h (entries_in before) written
      ∙ written_history keep rise v o.tx o.written.items o.in_form o.writes (with_entries h (entries_in before))
      ∙ ap (λ (g : History). with_entries g (entries_of v o.tx)) (makes h)
      ∙ sym (with_entries-append h (entries_to j i) (entries_of v o.tx))
      ∙ ap (with_entries h) (entries-opened o e is)

pub shows-first : (j : Job) (rows : List (Option (Option Row))) → ShowRows j rows j.state → ShowRows j rows (running j 0).state
unfolding running
shows-first j rows h = h

pub makes-first : (j : Job) (es : List NewEntry) → es ≡ [] → MakeHistory j es 0
unfolding entries_to
makes-first j es none h = ap (λ (l : List NewEntry). with_entries h (entries_in l)) none
