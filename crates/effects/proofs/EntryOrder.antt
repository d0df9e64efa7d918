-- The history doesn't depend on the order of a transaction's entries: each key has at most one of them.
use Rattle.std.proofs.Common.{◌≡◌, ℕ, Bool, true, false, not, cond, ◌&&◌, ◌||◌, List, [], ◌∷◌, ◌++◌, map, All, Option, Some, None, refl, sym, ap, subst, ◌∙◌, append-nil}
use Rattle.std.specs.Prelude.{filter, unwrap_or, flat_map, option_map, option_and_then, IsTrue}
use Rattle.std.specs.FinMap.{get, insert, get-insert, same_map}
use Rattle.std.specs.List.{find, list_any, list_all, AllByRecursion}
use Rattle.std.specs.List.Sorted.{IsStrictlySortedBy}
use Rattle.std.specs.Ordering.{is_eq}
use Rattle.std.specs.Str.{bytes_eq}
use Rattle.std.specs.declared.cmp.Ordering.TheVariants.{Less}
use Rattle.std.proofs.lemmas.List.Concat.{flat_map-cons}
use Rattle.std.proofs.lemmas.Slice.Eq.{bytes_eq-Decides}
use Rattle.std.proofs.lemmas.List.Elements.{filter-append, All-head, All-tail}
use Rattle.transaction.specs.declared.transaction.Version.{Version}
use Rattle.transaction.specs.declared.transaction.Write.{Write}
use Rattle.transaction.specs.declared.transaction.NsSet.{NsSet}
use Rattle.transaction.specs.declared.transaction.Tx.{Tx}
use Rattle.rules.specs.declared.history.HistoryEntry.{HistoryEntry}
use Rattle.rules.specs.Effect.{written_keys}
use Rattle.rules.specs.History.{History, entries_at, entries_of, with_entries}
use Rattle.rules.specs.ReadWriteSets.{are_distinct, has_results_in_form, has_policy_in_form, is_set_in_form, is_in_form}
use Rattle.rules.specs.State.{StateKey, key_cmp, is_same_key, is_among}
use Rattle.rules.proofs.Booleans.{neither}
use Rattle.rules.proofs.Effects.{same_in_namespace, write_of-unwritten}
use Rattle.rules.proofs.Keys.{key_cmp_total, key_cmp-IsAntisymmetric, key_ties, same_key_is}
use Rattle.candidates.specs.declared.written_key.WrittenKey.{WrittenKey}
use Rattle.candidates.specs.Written.{value_at, keys_in_order, IsWriteOf, AreWritesOf}
use Rattle.candidates.proofs.Rising.{first_holds, second_holds}
use Rattle.effects.specs.Entries.{entry_at, entry_written, entries_written}

not_true : (b : Bool) → not b ≡ true → b ≡ false
not_true true e = absurd (let f : true ≡ false = sym e in cc)
not_true false e = refl

same_bytes : (x y : List ℕ) → bytes_eq x y ≡ true → x ≡ y
same_bytes x y e = (bytes_eq-Decides x y).0 e

-- no key repeats among the writes of a well-formed set
writes_apart : (n : NsSet) → is_set_in_form n ≡ true → are_distinct (map (λ w. w.key) n.writes) ≡ true
writes_apart n form =
    second_holds (are_distinct (map (λ r. r.key) n.reads)) (are_distinct (map (λ w. w.key) n.writes))
    (first_holds _ (are_distinct (map (λ w. w.key) n.policy_writes)) (first_holds _ (list_all has_results_in_form n.ranges) (first_holds _ (list_all has_policy_in_form n.policy_writes) form)))

abbrev Entries : Type 0
Entries = List (StateKey × HistoryEntry)

-- ---- a history after entries, by those of each key

abbrev of_key : StateKey → Entries → Entries
of_key k es = filter (λ e. is_same_key k e.0) es

-- what a key has after these are added, all of them its own
abbrev behind : Option (List HistoryEntry) → Entries → Option (List HistoryEntry)
behind o [] = o
behind o (e ∷ es) = behind (Some (e.1 ∷ unwrap_or o [])) es

get-with_entries : (h : History) (es : Entries) (k : StateKey) → get (with_entries h es) k ≡ behind (get h k) (of_key k es)
unfolding with_entries
get-with_entries h [] k = refl
get-with_entries h (e ∷ es) k =
    let one : List HistoryEntry = e.1 ∷ entries_at h e.0 in
    get-with_entries (insert h e.0 one) es k
    ∙ ap (λ (o : Option (List HistoryEntry)). behind o (of_key k es)) (get-insert key_cmp_total h e.0 one k ∙ ap (λ (b : Bool). cond b (Some one) (get h k)) (key_ties k e.0))
    ∙ by (is_same_key k e.0) refl
  where
    by : (b : Bool) → is_same_key k e.0 ≡ b
        → behind (cond b (Some (e.1 ∷ entries_at h e.0)) (get h k)) (of_key k es) ≡ behind (get h k) (cond b (e ∷ of_key k es) (of_key k es))
    by true same = ap (λ (q : StateKey). behind (Some (e.1 ∷ entries_at h q)) (of_key k es)) (sym (same_key_is k e.0 same))
    by false same = refl

pub one_history : (h : History) (es fs : Entries) → ((k : StateKey) → of_key k es ≡ of_key k fs) → with_entries h es ≡ with_entries h fs
one_history h es fs same =
    same_map key_cmp_total key_cmp-IsAntisymmetric (with_entries h es) (with_entries h fs)
    (λ k. get-with_entries h es k ∙ ap (behind (get h k)) (same k) ∙ sym (get-with_entries h fs k))

-- ---- the entries of one key

module _ (v : Version) (id : List ℕ) where
  own_entry : (k q : StateKey) (o : Option (Option (List ℕ))) → is_same_key k q ≡ true → of_key k (entry_at v id q o) ≡ entry_at v id k o
  own_entry k q None same = refl
  own_entry k q (Some x) same =
      ap (λ (b : Bool). cond b (entry_at v id q (Some x)) []) same ∙ ap (λ (p : StateKey). entry_at v id p (Some x)) (sym (same_key_is k q same))

  other_entry : (k q : StateKey) (o : Option (Option (List ℕ))) → is_same_key k q ≡ false → of_key k (entry_at v id q o) ≡ []
  other_entry k q None other = refl
  other_entry k q (Some x) other = ap (λ (b : Bool). cond b (entry_at v id q (Some x)) []) other

  -- ---- of what is written, key by key

  none_above : (k : StateKey) (ws : List WrittenKey) → AllByRecursion (λ y. key_cmp k y ≡ Less) (map (λ w. w.key) ws) → is_among k (map (λ w. w.key) ws) ≡ false
  none_above k [] h = refl
  none_above k (w ∷ ws) h = ap (λ (b : Bool). b || is_among k (map (λ x. x.key) ws)) (sym (key_ties k w.key) ∙ ap is_eq h.0) ∙ none_above k ws h.1

  at_written : (tx : Tx) (k : StateKey) (ws : List WrittenKey) → All (IsWriteOf tx) ws → IsStrictlySortedBy key_cmp (map (λ w. w.key) ws)
      → of_key k (entries_written v id ws) ≡ cond (is_among k (map (λ w. w.key) ws)) (entry_at v id k (value_at tx k)) []
  unfolding IsStrictlySortedBy
  at_written tx k [] are rise = refl
  at_written tx k (w ∷ ws) are rise =
      ap (of_key k) (flat_map-cons (entry_written v id) w ws) ∙ filter-append (λ e. is_same_key k e.0) (entry_written v id w) (entries_written v id ws)
      ∙ by (is_same_key k w.key) refl (at_written tx k ws (All-tail (IsWriteOf tx) w ws are) rise.1)
    where
      by : (b : Bool) → is_same_key k w.key ≡ b
          → of_key k (entries_written v id ws) ≡ cond (is_among k (map (λ x. x.key) ws)) (entry_at v id k (value_at tx k)) []
          → of_key k (entry_written v id w) ++ of_key k (entries_written v id ws) ≡ cond (b || is_among k (map (λ x. x.key) ws)) (entry_at v id k (value_at tx k)) []
      by true same later =
          let is : k ≡ w.key = same_key_is k w.key same in
          let value : w.value ≡ value_at tx k = (All-head (IsWriteOf tx) w ws are).0 ∙ ap (value_at tx) (sym is) in
          let rest : of_key k (entries_written v id ws) ≡ [] =
          later ∙ ap (λ (b : Bool). cond b (entry_at v id k (value_at tx k)) []) (ap (λ (q : StateKey). is_among q (map (λ x. x.key) ws)) is ∙ none_above w.key ws rise.0) in
          (λ i. (own_entry k w.key w.value same ∙ ap (entry_at v id k) value) i ++ rest i) ∙ append-nil (entry_at v id k (value_at tx k))
      by false other later = ap (λ (l : Entries). l ++ of_key k (entries_written v id ws)) (other_entry k w.key w.value other) ∙ later

  -- ---- of the transaction's lists

  abbrev entry_in : List ℕ → Write → StateKey × HistoryEntry
  entry_in name w = ((name, w.key), record { version = v; id = id; value = w.value })

  abbrev set_entries : NsSet → Entries
  set_entries n = map (entry_in n.name) n.writes

  elsewhere : (k : StateKey) (name : List ℕ) (ws : List Write) → bytes_eq k.0 name ≡ false → of_key k (map (entry_in name) ws) ≡ []
  elsewhere k name [] other = refl
  elsewhere k name (w ∷ ws) other =
      ap (λ (b : Bool). cond (b && bytes_eq k.1 w.key) (entry_in name w ∷ of_key k (map (entry_in name) ws)) (of_key k (map (entry_in name) ws))) other ∙ elsewhere k name ws other

  nowhere : (k : StateKey) (name : List ℕ) (ws : List Write) → bytes_eq k.0 name ≡ true → list_any (bytes_eq k.1) (map (λ w. w.key) ws) ≡ false → of_key k (map (entry_in name) ws) ≡ []
  nowhere k name [] here none = refl
  nowhere k name (w ∷ ws) here none =
      let parts = neither (bytes_eq k.1 w.key) (list_any (bytes_eq k.1) (map (λ x. x.key) ws)) none in
      ap (λ (b : Bool). cond b (entry_in name w ∷ of_key k (map (entry_in name) ws)) (of_key k (map (entry_in name) ws))) (same_in_namespace k name w.key here ∙ parts.0)
      ∙ nowhere k name ws here parts.1

  in_set : (k : StateKey) (name : List ℕ) (ws : List Write) → bytes_eq k.0 name ≡ true → are_distinct (map (λ w. w.key) ws) ≡ true
      → of_key k (map (entry_in name) ws) ≡ entry_at v id k (option_map (λ w. w.value) (find (λ w. bytes_eq k.1 w.key) ws))
  in_set k name [] here apart = refl
  in_set k name (w ∷ ws) here apart =
      ap (λ (b : Bool). cond b (entry_in name w ∷ of_key k (map (entry_in name) ws)) (of_key k (map (entry_in name) ws))) (same_in_namespace k name w.key here)
      ∙ by (bytes_eq k.1 w.key) refl (in_set k name ws here (second_holds (not (list_any (bytes_eq w.key) (map (λ x. x.key) ws))) _ apart))
    where
      by : (b : Bool) → bytes_eq k.1 w.key ≡ b
          → of_key k (map (entry_in name) ws) ≡ entry_at v id k (option_map (λ x. x.value) (find (λ x. bytes_eq k.1 x.key) ws))
          → cond b (entry_in name w ∷ of_key k (map (entry_in name) ws)) (of_key k (map (entry_in name) ws))
          ≡ entry_at v id k (option_map (λ x. x.value) (cond b (Some w) (find (λ x. bytes_eq k.1 x.key) ws)))
      by true same later =
          let is : k ≡ (name, w.key) = same_key_is k (name, w.key) (same_in_namespace k name w.key here ∙ same) in
          let alone : list_any (bytes_eq k.1) (map (λ x. x.key) ws) ≡ false =
          ap (λ (q : StateKey). list_any (bytes_eq q.1) (map (λ x. x.key) ws)) is ∙ not_true _ (first_holds _ _ apart) in
          (λ i. (sym is i, record { version = v; id = id; value = w.value }) ∷ nowhere k name ws here alone i)
      by false other later = later

  unnamed : (k : StateKey) (ns : List NsSet) → list_any (bytes_eq k.0) (map (λ n. n.name) ns) ≡ false → of_key k (flat_map set_entries ns) ≡ []
  unnamed k [] none = refl
  unnamed k (n ∷ ns) none =
      let parts = neither (bytes_eq k.0 n.name) (list_any (bytes_eq k.0) (map (λ x. x.name) ns)) none in
      ap (of_key k) (flat_map-cons set_entries n ns) ∙ filter-append (λ e. is_same_key k e.0) (set_entries n) (flat_map set_entries ns)
      ∙ (λ i. elsewhere k n.name n.writes parts.0 i ++ unnamed k ns parts.1 i)

  abbrev written_in : StateKey → Option NsSet → Option (Option (List ℕ))
  written_in k set = option_map (λ w. w.value) (option_and_then (λ n. find (λ w. bytes_eq k.1 w.key) n.writes) set)

  in_sets : (k : StateKey) (ns : List NsSet) → are_distinct (map (λ n. n.name) ns) ≡ true → list_all is_set_in_form ns ≡ true
      → of_key k (flat_map set_entries ns) ≡ entry_at v id k (written_in k (find (λ n. bytes_eq k.0 n.name) ns))
  in_sets k [] apart form = refl
  in_sets k (n ∷ ns) apart form =
      ap (of_key k) (flat_map-cons set_entries n ns) ∙ filter-append (λ e. is_same_key k e.0) (set_entries n) (flat_map set_entries ns)
      ∙ by (bytes_eq k.0 n.name) refl (in_sets k ns (second_holds (not (list_any (bytes_eq n.name) (map (λ x. x.name) ns))) _ apart) (second_holds (is_set_in_form n) _ form))
    where
      by : (b : Bool) → bytes_eq k.0 n.name ≡ b
          → of_key k (flat_map set_entries ns) ≡ entry_at v id k (written_in k (find (λ x. bytes_eq k.0 x.name) ns))
          → of_key k (set_entries n) ++ of_key k (flat_map set_entries ns) ≡ entry_at v id k (written_in k (cond b (Some n) (find (λ x. bytes_eq k.0 x.name) ns)))
      by true here later =
          let alone : list_any (bytes_eq k.0) (map (λ x. x.name) ns) ≡ false =
          ap (λ (x : List ℕ). list_any (bytes_eq x) (map (λ x. x.name) ns)) (same_bytes k.0 n.name here) ∙ not_true _ (first_holds _ _ apart) in
          (λ i. in_set k n.name n.writes here (writes_apart n (first_holds _ _ form)) i ++ unnamed k ns alone i)
          ∙ append-nil (entry_at v id k (written_in k (Some n)))
      by false other later = ap (λ (l : Entries). l ++ of_key k (flat_map set_entries ns)) (elsewhere k n.name n.writes other) ∙ later

-- ---- of one transaction

-- keys in order are the same keys
abbrev pub KeepKeys : Type 0
KeepKeys = (k : StateKey) (ks : List StateKey) → is_among k (keys_in_order ks) ≡ is_among k ks

-- and strictly rise
abbrev pub Rise : Type 0
Rise = (ks : List StateKey) → IsStrictlySortedBy key_cmp (keys_in_order ks)

-- The entries of what it writes, in the keys' order, make the same history as those of its own order.
pub written_history : KeepKeys → Rise → (v : Version) (tx : Tx) (ws : List WrittenKey) → IsTrue (is_in_form tx) → AreWritesOf tx ws → (h : History) → with_entries h (entries_written v tx.id ws) ≡ with_entries h (entries_of v tx)
written_history keep rising v tx ws form are h =
    one_history h (entries_written v tx.id ws) (entries_of v tx)
    (λ k.
    at_written v tx.id tx k ws are.each (subst (IsStrictlySortedBy key_cmp) (sym are.keys) (rising (written_keys tx)))
    ∙ ap (λ (b : Bool). cond b (entry_at v tx.id k (value_at tx k)) []) (ap (is_among k) are.keys ∙ keep k (written_keys tx))
    ∙ by k (is_among k (written_keys tx)) refl
    ∙ sym (in_sets v tx.id k tx.namespaces (first_holds _ _ form) (second_holds (are_distinct (map (λ n. n.name) tx.namespaces)) _ form)))
  where
    by : (k : StateKey) (b : Bool) → is_among k (written_keys tx) ≡ b → cond b (entry_at v tx.id k (value_at tx k)) [] ≡ entry_at v tx.id k (value_at tx k)
    by k true e = refl
    by k false e = ap (λ (w : Option Write). entry_at v tx.id k (option_map (λ x. x.value) w)) (sym (write_of-unwritten tx k e))
