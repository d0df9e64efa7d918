-- The state after the writes of one transaction, key by key.
use Rattle.std.proofs.Common.{◌≡◌, ℕ, zero, suc, ◌+◌, ◌<◌, Bool, true, false, cond, ◌||◌, List, [], ◌∷◌, ◌++◌, length, take, get_or, map, All, arith, Option, Some, None, refl, sym, ap, ◌∙◌}
use Rattle.std.specs.Prelude.{option_map, slice_get}
use Rattle.std.proofs.lemmas.List.{append-nil, append_assoc, take_more}
use Rattle.std.proofs.lemmas.List.Concat.{flat_map-cons}
use Rattle.std.proofs.lemmas.Grind.{flat_map-append}
use Rattle.std.specs.FinMap.{get}
use Rattle.std.proofs.lemmas.List.Elements.{All-head, All-tail}
use Rattle.transaction.specs.declared.transaction.Version.{Version}
use Rattle.transaction.specs.declared.transaction.Write.{Write}
use Rattle.transaction.specs.declared.transaction.PolicyWrite.{PolicyWrite}
use Rattle.transaction.specs.declared.transaction.Tx.{Tx}
use Rattle.rules.specs.declared.history.HistoryEntry.{HistoryEntry}
use Rattle.rules.specs.declared.row.Row.{Row}
use Rattle.rules.specs.State.{StateKey, State, is_same_key, is_among}
use Rattle.rules.specs.Effect.{write_of, policy_write_of, policy_left, row_after, effect_at}
use Rattle.rules.proofs.Changes.{get-set_at}
use Rattle.rules.proofs.Keys.{same_key_is}
use Rattle.rules.specs.Candidate.{Candidate}
use Rattle.rules.specs.Job.{Job, candidate_at}
use Rattle.key_chains.specs.Job.{IsOpened, written_by}
use Rattle.candidates.specs.declared.open_tx.OpenTx.{OpenTx}
use Rattle.candidates.specs.declared.written_key.WrittenKey.{WrittenKey}
use Rattle.candidates.specs.Written.{IsWriteOf}
use Rattle.effects.specs.Entries.{entry_written, entries_written}
use Rattle.effects.specs.WrittenRow.{row_by_parts, row_written, with_write, with_writes}

parts_are : (v : Version) (w : Option Write) (p : Option PolicyWrite) (row : Option Row) → row_by_parts v (option_map (λ x. x.value) w) (option_map policy_left p) row ≡ row_after v w p row
parts_are v (Some w) (Some p) row = refl
parts_are v (Some w) None row = refl
parts_are v None (Some p) row = refl
parts_are v None None row = refl

-- the row that a transaction leaves at its key
pub row_written-is : (v : Version) (tx : Tx) (w : WrittenKey) (row : Option Row) → IsWriteOf tx w → row_written v w row ≡ effect_at v tx w.key row
row_written-is v tx w row is = ap (λ x. row_by_parts v x w.policy row) is.0 ∙ ap (λ p. row_by_parts v (option_map (λ x. x.value) (write_of tx w.key)) p row) is.1 ∙ parts_are v (write_of tx w.key) (policy_write_of tx w.key) row

-- made twice, a transaction's writes of a key make the same row
again : (v : Version) (w : Option Write) (p : Option PolicyWrite) (row : Option Row) → row_after v w p (row_after v w p row) ≡ row_after v w p row
again v (Some w) (Some p) row = refl
again v (Some w) None row = by w.value
  where
    by : (x : Option (List ℕ)) → row_by_parts v (Some x) None (row_by_parts v (Some x) None row) ≡ row_by_parts v (Some x) None row
    by (Some x) = refl
    by None = refl
again v None (Some p) (Some row) = refl
again v None (Some p) None = refl
again v None None row = refl

-- its writes one by one leave each key with what the transaction leaves there
module _ (v : Version) (tx : Tx) where
  one_more : (s : State) (w : WrittenKey) (k : StateKey) (among b : Bool) → IsWriteOf tx w → is_same_key k w.key ≡ b
      → cond among (effect_at v tx k (cond b (row_written v w (get s w.key)) (get s k))) (cond b (row_written v w (get s w.key)) (get s k)) ≡ cond (b || among) (effect_at v tx k (get s k)) (get s k)
  one_more s w k true true is e =
      let same : w.key ≡ k = sym (same_key_is k w.key e) in
      ap (effect_at v tx k) (row_written-is v tx w (get s w.key) is ∙ ap (λ x. effect_at v tx x (get s x)) same) ∙ again v (write_of tx k) (policy_write_of tx k) (get s k)
  one_more s w k true false is e = refl
  one_more s w k false true is e =
      let same : w.key ≡ k = sym (same_key_is k w.key e) in row_written-is v tx w (get s w.key) is ∙ ap (λ x. effect_at v tx x (get s x)) same
  one_more s w k false false is e = refl

  head_is : (w : WrittenKey) (ws : List WrittenKey) → All (IsWriteOf tx) (w ∷ ws) → IsWriteOf tx w
  head_is w ws h = All-head (IsWriteOf tx) w ws h

  pub get-with_writes : (s : State) (ws : List WrittenKey) (k : StateKey) → All (IsWriteOf tx) ws → get (with_writes v s ws) k ≡ cond (is_among k (map (λ w. w.key) ws)) (effect_at v tx k (get s k)) (get s k)
  unfolding with_writes
  get-with_writes s [] k h = refl
  get-with_writes s (w ∷ ws) k h =
      get-with_writes (with_write v s w) ws k (All-tail (IsWriteOf tx) w ws h)
      ∙ ap (λ r. cond (is_among k (map (λ x. x.key) ws)) (effect_at v tx k r) r) (get-set_at s w.key (row_written v w (get s w.key)) k)
      ∙ one_more s w k (is_among k (map (λ x. x.key) ws)) (is_same_key k w.key) (head_is w ws h) refl

-- one written key more at the end
pub with_writes-push : (v : Version) (s : State) (ws : List WrittenKey) (w : WrittenKey) → with_writes v s (ws ++ w ∷ []) ≡ with_write v (with_writes v s ws) w
unfolding with_writes
with_writes-push v s [] w = refl
with_writes-push v s (x ∷ ws) w = with_writes-push v (with_write v s x) ws w

pub with_writes-none : (v : Version) (s : State) → with_writes v s [] ≡ s
unfolding with_writes
with_writes-none v s = refl

-- the next of its keys is written
pub next_written : (v w : Version) (s : State) (ws xs : List WrittenKey) (n : ℕ) (x : WrittenKey) → v ≡ w → xs ≡ ws → n < length xs → x ≡ get_or xs n x
    → with_write v (with_writes w s (take n ws)) x ≡ with_writes w s (take (n + 1) ws)
next_written v w s ws xs n x same are lt is =
    ap (λ u. with_write u (with_writes w s (take n ws)) x) same ∙ sym (with_writes-push w s (take n ws) x)
    ∙ ap (λ l. with_writes w s (take n l ++ x ∷ [])) (sym are)
    ∙ ap (with_writes w s) (ap (λ y. take n xs ++ y ∷ []) is ∙ sym (take_more xs n x lt)) ∙ ap (λ l. with_writes w s (take (n + 1) l)) are

-- and its entry follows those before it
pub next_entries : (v w : Version) (id : List ℕ) (es : List (StateKey × HistoryEntry)) (ws xs : List WrittenKey) (n : ℕ) (x : WrittenKey) → v ≡ w → xs ≡ ws → n < length xs → x ≡ get_or xs n x
    → (es ++ entries_written w id (take n ws)) ++ entry_written v id x ≡ es ++ entries_written w id (take (n + 1) ws)
next_entries v w id es ws xs n x same are lt is =
    append_assoc es (entries_written w id (take n ws)) (entry_written v id x)
    ∙ ap (λ l. es ++ l)
    (ap (λ u. entries_written w id (take n ws) ++ entry_written u id x) same
    ∙ ap (λ l. entries_written w id (take n ws) ++ l) (sym (append-nil (entry_written w id x)) ∙ sym (flat_map-cons (entry_written w id) x []))
    ∙ sym (flat_map-append (entry_written w id) (take n ws) (x ∷ []))
    ∙ ap (λ l. entries_written w id (take n l ++ x ∷ [])) (sym are)
    ∙ ap (entries_written w id) (ap (λ y. take n xs ++ y ∷ []) is ∙ sym (take_more xs n x lt)) ∙ ap (λ l. entries_written w id (take (n + 1) l)) are)

at_place : {A B : Type 0} (f : A → B) (xs : List A) (n : ℕ) (d : A) → n < length xs → slice_get (map f xs) n ≡ Some (f (get_or xs n d))
at_place f [] n d lt = absurd (omega arith)
at_place f (x ∷ xs) zero d lt = refl
at_place f (x ∷ xs) (suc n) d lt = at_place f xs n d (omega arith)

pub key_at_place : (j : Job) (i : ℕ) (o : OpenTx) (xs : List WrittenKey) (n : ℕ) (x : WrittenKey) → IsOpened j i o → xs ≡ o.written.items → n < length xs → x ≡ get_or xs n x → slice_get (written_by (candidate_at j i)) n ≡ Some x.key
key_at_place j i o xs n x is are lt at =
    ap (λ (c : Candidate). slice_get (written_by c) n) is
    ∙ ap (λ (l : List StateKey). slice_get l n) (sym o.writes.keys ∙ ap (map (λ w. w.key)) (sym are))
    ∙ at_place (λ (w : WrittenKey). w.key) xs n x lt ∙ ap (λ (w : WrittenKey). Some w.key) (sym at)
