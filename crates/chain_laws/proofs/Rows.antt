-- The rows of a state have room, and so have those that a block leaves.
use Rattle.std.proofs.Common.{◌≡◌, ℕ, zero, suc, ◌^◌, ◌<◌, ◌≤◌, Bool, true, false, cond, List, [], ◌∷◌, length, map, Option, Some, None, refl, sym, ap, subst, ◌∙◌, arith}
use Rattle.std.specs.Prelude.{IfSome, find, if◌then◌else◌, option_map, option_and_then}
use Rattle.std.specs.Str.{bytes_eq}
use Rattle.std.specs.List.{AllByRecursion}
use Rattle.std.specs.Ordering.{is_lt, eq_by_cmp}
use Rattle.std.specs.declared.cmp.Ordering.{Ordering}
use Rattle.std.specs.declared.cmp.Ordering.TheVariants.{Less, Equal, Greater}
use Rattle.std.specs.FinMap.{get, find as found, is_sorted}
use Rattle.std.specs.FinMap.Entries.{below_all}
use Rattle.transaction.specs.declared.transaction.Version.{Version}
use Rattle.transaction.specs.declared.transaction.Write.{Write}
use Rattle.transaction.specs.declared.transaction.PolicyWrite.{PolicyWrite}
use Rattle.transaction.specs.declared.transaction.NsSet.{NsSet}
use Rattle.transaction.specs.declared.transaction.Tx.{Tx}
use Rattle.transaction.specs.Grammar.{IsVersion}
use Rattle.policy.specs.Tree.{Tree}
use Rattle.policy.specs.Meaning.{policy_of}
use Rattle.rules.specs.declared.row.Row.{Row}
use Rattle.rules.specs.Flags.{is_valid}
use Rattle.rules.specs.State.{StateKey, State, ChangeOf, key_cmp, is_same_key, set_at, with_changes}
use Rattle.rules.specs.Differing.{policy_text, is_unchanged, differing}
use Rattle.rules.specs.Effect.{set_of, write_of, policy_write_of, written_keys, policy_left, policy_after, row_after, effect_at}
use Rattle.rules.specs.CommitBytes.{told_row, told_change, HasRoomForRow, HasRoomForChange}
use Rattle.rules.specs.Candidate.{Candidate, flagged, opened, updates}
use Rattle.rules.specs.Job.{Job, candidate_at, version_of, changes_by, state_after}
use Rattle.rules.specs.Fold.{running, flag}
use Rattle.rules.proofs.Booleans.{both_true}
use Rattle.rules.proofs.Keys.{key_ties, same_key_is, same_as_itself}
use Rattle.rules.proofs.Changes.{get-set_at}
use Rattle.rules.proofs.Differing.{difference, sorted-differing, find-differing}
use Rattle.chain_laws.specs.Room.{RowsHaveRoom}
use Rattle.chain_laws.proofs.Lists.{all-map, all-find}
use Rattle.chain_laws.proofs.Items.{FitsWrite, FitsSet, FitsTx, FitsKey, keys_fit}
use Rattle.chain_laws.proofs.Candidates.{Fits, text_short}

-- what a key has, if it has a row, has room
abbrev HasRow : Option Row → Type 0
HasRow o = IfSome (option_map told_row o) HasRoomForRow

abbrev Roomy : ChangeOf Row → Type 0
Roomy c = HasRoomForChange (told_change c)

row_of : (s : State) → RowsHaveRoom s → (k : StateKey) → HasRow (get s k)
row_of s rows k = by (get s k) refl
  where
    by : (o : Option Row) → get s k ≡ o → HasRow o
    by None e = tt
    by (Some r) e = (rows k r e).1.1

-- ---- what a transaction leaves of a row

text_room : (text : List ℕ) (o : Option Tree) → policy_of text ≡ o → length (policy_text o) < 2 ^ 16
text_room text None e = omega arith
text_room text (Some t) e = text_short text t e

left_room : (w : PolicyWrite) → length (policy_text (policy_left w)) < 2 ^ 16
left_room w = by w.policy
  where
    by : (o : Option (List ℕ)) → length (policy_text (option_and_then policy_of o)) < 2 ^ 16
    by None = omega arith
    by (Some text) = text_room text (policy_of text) refl

after_room : (p : Option PolicyWrite) (row : Option Row) → HasRow row → length (policy_text (policy_after p row)) < 2 ^ 16
after_room (Some w) row has = left_room w
after_room None None has = omega arith
after_room None (Some r) has = has.1.1

row_after_room : (v : Version) → IsVersion v → (w : Option Write) → IfSome w FitsWrite → (p : Option PolicyWrite) (row : Option Row) → HasRow row → HasRow (row_after v w p row)
row_after_room v is (Some w) fits p row has = by w.value fits.value
  where
    by : (o : Option (List ℕ)) → IfSome o (λ value. length value < 2 ^ 32) → HasRow (option_map (λ value. record { value = value; version = v; policy = policy_after p row }) o)
    by None short = tt
    by (Some value) short = (is, (short, after_room p row has))
row_after_room v is None fits (Some p) None has = tt
row_after_room v is None fits (Some p) (Some r) has = (is, (has.1.0, left_room p))
row_after_room v is None fits None row has = has

write_fits : (tx : Tx) → FitsTx tx → (k : StateKey) → IfSome (write_of tx k) FitsWrite
write_fits tx fits k = by (set_of tx k.0) (all-find FitsSet (λ n. bytes_eq k.0 n.name) tx.namespaces fits.sets)
  where
    by : (o : Option NsSet) → IfSome o FitsSet → IfSome (option_and_then (λ n. find (λ w. bytes_eq k.1 w.key) n.writes) o) FitsWrite
    by None h = tt
    by (Some n) h = all-find FitsWrite (λ w. bytes_eq k.1 w.key) n.writes h.writes

changes_room : (v : Version) → IsVersion v → (c : Candidate) → Fits c → (s : State) → RowsHaveRoom s → AllByRecursion Roomy (changes_by v c s)
changes_room v is (flagged f) fits s rows = tt
changes_room v is (updates u signers) fits s rows = tt
changes_room v is (opened tx signers) fits s rows =
    all-map FitsKey Roomy (λ k. (k, effect_at v tx k (get s k)))
    (λ k h. (h.0, (h.1, row_after_room v is (write_of tx k) (write_fits tx fits k) (policy_write_of tx k) (get s k) (row_of s rows k))))
    (written_keys tx) (keys_fit tx fits)

-- ---- a state after changes

set_room : (s : State) → RowsHaveRoom s → (k : StateKey) (o : Option Row) → Roomy (k, o) → RowsHaveRoom (set_at s k o)
set_room s rows k o room q row e = by (is_same_key q k) refl (sym (get-set_at s k o q) ∙ e)
  where
    by : (b : Bool) → is_same_key q k ≡ b → (if b then o else get s q) ≡ Some row → Roomy (q, Some row)
    by true same is = subst (λ (x : StateKey). Roomy (x, Some row)) (sym (same_key_is q k same)) (subst (λ (x : Option Row). Roomy (k, x)) is room)
    by false same is = rows q row is

changed_room : (s : State) → RowsHaveRoom s → (cs : List (ChangeOf Row)) → AllByRecursion Roomy cs → RowsHaveRoom (with_changes s cs)
unfolding with_changes
changed_room s rows [] room = rows
changed_room s rows (c ∷ cs) room = changed_room (set_at s c.0 c.1) (set_room s rows c.0 c.1 room.0) cs room.1

either_room : (b : Bool) (s t : State) → RowsHaveRoom s → RowsHaveRoom t → RowsHaveRoom (if b then s else t)
either_room true s t first second = first
either_room false s t first second = second

pub running_room : (j : Job) → j.number < 2 ^ 64 → ((i : ℕ) → Fits (candidate_at j i)) → RowsHaveRoom j.state → (n : ℕ) → n ≤ 2 ^ 32 → RowsHaveRoom (running j n).state
unfolding running
running_room j number fits rows zero few = rows
running_room j number fits rows (suc i) few =
    let earlier = running_room j number fits rows i (omega (arith, few)) in
    let version : IsVersion (version_of j i) = record { block = number; tx = omega (arith, few) } in
    let changes = changes_room (version_of j i) version (candidate_at j i) (fits i) (running j i).state earlier in
    either_room (is_valid (flag j i)) (state_after j i (running j i).state) (running j i).state
    (changed_room (running j i).state earlier (changes_by (version_of j i) (candidate_at j i) (running j i).state) changes) earlier

-- ---- the rows that differ

is_less : (o : Ordering) → is_lt o ≡ true → o ≡ Less
is_less Less e = refl
is_less Equal e = absurd cc
is_less Greater e = absurd cc

-- a key that is before all is none of theirs
before_all : {X : Type 0} (k : StateKey) (es : List (StateKey × X)) → below_all key_cmp k es ≡ true → found key_cmp k es ≡ None
before_all k [] below = refl
before_all k (e ∷ es) below =
    let parts = both_true (is_lt (key_cmp k e.0)) (below_all key_cmp k es) below in
    rw (is_less (key_cmp k e.0) parts.0) (before_all k es parts.1)

no_value : {X : Type 0} (x : X) → None ≡ Some x → ⊥
no_value x e = absurd cc

-- in a list in order each key is found with its own value
each_found : {X : Type 0} (P : StateKey → X → Type 0) (es : List (StateKey × X)) → is_sorted key_cmp es ≡ true → ((k : StateKey) (x : X) → found key_cmp k es ≡ Some x → P k x) → AllByRecursion (λ e. P e.0 e.1) es
each_found P [] sorted each = tt
each_found {X} P (e ∷ es) sorted each =
    (each e.0 e.1 (ap (λ (b : Bool). cond b (Some e.1) (found key_cmp e.0 es)) (key_ties e.0 e.0 ∙ same_as_itself e.0)), each_found P es parts.1 (λ k x f. each k x (later k x (is_same_key k e.0) refl f)))
  where
    parts : (below_all key_cmp e.0 es ≡ true) × (is_sorted key_cmp es ≡ true)
    parts = both_true (below_all key_cmp e.0 es) (is_sorted key_cmp es) sorted

    later : (k : StateKey) (x : X) (b : Bool) → is_same_key k e.0 ≡ b → found key_cmp k es ≡ Some x → cond (eq_by_cmp key_cmp k e.0) (Some e.1) (found key_cmp k es) ≡ Some x
    later k x true same f = absurd (no_value x (sym (ap (λ (q : StateKey). found key_cmp q es) (same_key_is k e.0 same) ∙ before_all e.0 es parts.0) ∙ f))
    later k x false same f = ap (λ (b : Bool). cond b (Some e.1) (found key_cmp k es)) (key_ties k e.0 ∙ same) ∙ f

same_after : (b : Bool) (a x : Option Row) → (if b then None else Some a) ≡ Some x → a ≡ x
same_after true a x e = absurd cc
same_after false a x e = cc

pub differing_room : (before after : State) → RowsHaveRoom before → RowsHaveRoom after → AllByRecursion HasRoomForChange (map told_change (differing before after))
differing_room before after first second =
    all-map Roomy HasRoomForChange told_change (λ c h. h) (differing before after)
    (each_found (λ k x. Roomy (k, x)) (differing before after) (sorted-differing before after) (λ k x e. by k x (get before k) refl (get after k) refl (sym (find-differing before after k) ∙ e)))
  where
    by : (k : StateKey) (x b : Option Row) → get before k ≡ b → (a : Option Row) → get after k ≡ a → difference b a ≡ Some x → Roomy (k, x)
    by k x None eb None ea e = absurd cc
    by k x None eb (Some r) ea e = let h = second k r ea in (h.0, (h.1.0, subst HasRow (ea ∙ same_after (is_unchanged None (Some r)) (Some r) x e) (row_of after second k)))
    by k x (Some r) eb a ea e = let h = first k r eb in (h.0, (h.1.0, subst HasRow (ea ∙ same_after (is_unchanged (Some r) a) a x e) (row_of after second k)))
