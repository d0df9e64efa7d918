-- The entries of a key along the places of its hash.
use Rattle.std.proofs.Common.{◌≡◌, ℕ, suc, ◌-◌, ◌<◌, ◌≤◌, Bool, true, false, cond, List, [], ◌∷◌, ◌++◌, length, map, take, get_or, Option, Some, refl, sym, ap, subst, ◌∙◌, arith}
use Rattle.std.specs.Prelude.{filter, reverse, unwrap_or, ◌==◌}
use Rattle.std.specs.FinMap.{get, insert, empty, get-empty, get-insert}
use Rattle.std.proofs.Math.Seq.{take-suc}
use Rattle.std.proofs.lemmas.Bool.{eqb-true, eq-eqb}
use Rattle.std.proofs.lemmas.List.{append-nil, map-append, take-map, get_or-map, length-map, take_all}
use Rattle.history_index.specs.Places.{place_or, last_place, last_with}
use Rattle.history_index.proofs.Places.{before-bound, before-still, before-filter, before-hit}
use Rattle.rules.specs.declared.delta.NewEntry.{NewEntry}
use Rattle.rules.specs.declared.history.HistoryEntry.{HistoryEntry}
use Rattle.rules.specs.State.{StateKey, is_same_key, key_cmp}
use Rattle.rules.specs.Delta.{entries_in}
use Rattle.rules.specs.History.{History, entries_at, with_entries}
use Rattle.rules.proofs.Keys.{key_cmp_total, key_ties, same_key_is, same_as_itself}
use Rattle.rules.proofs.HistoryEntries.{with_entries-none, with_entries-push, entries_at-with_entries, newest_first}
use Rattle.history_index.specs.Hash.{key_hash}
use Rattle.history_index.specs.Lists.{no_entry, history_of, entries_before, hashes_of, last_before, IsChain}

abbrev is_of : StateKey → NewEntry → Bool
is_of k e = is_same_key k e.key

abbrev has_hash : ℕ → NewEntry → Bool
has_hash h e = key_hash e.key == h

-- ---- the entries of a key, by a filter

abbrev listed : StateKey → List NewEntry → List HistoryEntry
listed k all = reverse (map (λ e. e.1) (entries_in (filter (is_of k) all)))

filter_keyed : (k : StateKey) (all : List NewEntry) → filter (λ e. is_same_key k e.0) (entries_in all) ≡ entries_in (filter (is_of k) all)
filter_keyed k [] = refl
filter_keyed k (e ∷ all) = by (is_of k e) (filter_keyed k all)
  where
    by : (b : Bool) → filter (λ x. is_same_key k x.0) (entries_in all) ≡ entries_in (filter (is_of k) all)
        → cond b ((e.key, e.entry) ∷ filter (λ x. is_same_key k x.0) (entries_in all)) (filter (λ x. is_same_key k x.0) (entries_in all)) ≡ entries_in (cond b (e ∷ filter (is_of k) all) (filter (is_of k) all))
    by true rest = ap (λ es. (e.key, e.entry) ∷ es) rest
    by false rest = rest

as_listed : (k : StateKey) (all : List NewEntry) → entries_at (history_of all) k ≡ listed k all
as_listed k all =
    entries_at-with_entries empty (entries_in all) k
    ∙ ap (λ o. newest_first k (entries_in all) ++ unwrap_or o []) (get-empty {X = List HistoryEntry} key_cmp k)
    ∙ append-nil (newest_first k (entries_in all))
    ∙ ap (λ es. reverse (map (λ e. e.1) es)) (filter_keyed k all)

-- ---- the entries of a hash

own_hash : (k : StateKey) (e : NewEntry) → is_of k e ≡ true → has_hash (key_hash k) e ≡ true
own_hash k e same = eq-eqb (key_hash e.key) (key_hash k) (ap key_hash (sym (same_key_is k e.key same)))

last_of_hashes : (test : ℕ → Bool) (all : List NewEntry) → last_place test (hashes_of all) ≡ last_place (λ e. test (key_hash e.key)) all
last_of_hashes test [] = refl
last_of_hashes test (e ∷ all) = ap (λ n. place_or n (cond (test (key_hash e.key)) 1 0)) (last_of_hashes test all)

by_entries : (all : List NewEntry) (k : StateKey) (n : ℕ) → last_before all k n ≡ last_place (has_hash (key_hash k)) (take n all)
by_entries all k n = ap (last_with (key_hash k)) (take-map (λ (e : NewEntry). key_hash e.key) n all) ∙ last_of_hashes (λ h. h == key_hash k) (take n all)

-- those before the last place of the hash are all
pub jumped : (all : List NewEntry) (k : StateKey) (n : ℕ) → n ≤ length all → entries_before all k (last_before all k n) ≡ entries_before all k n
jumped all k n h =
    ap (entries_before all k) (by_entries all k n)
    ∙ as_listed k (take (last_place (has_hash (key_hash k)) (take n all)) all)
    ∙ ap (λ es. reverse (map (λ e. e.1) (entries_in es))) (before-filter (has_hash (key_hash k)) all (is_of k) (own_hash k) n h)
    ∙ sym (as_listed k (take n all))

-- ---- one entry more

inserted : (h : History) (k : StateKey) (x : List HistoryEntry) (q : StateKey) → entries_at (insert h k x) q ≡ cond (is_same_key q k) x (entries_at h q)
inserted h k x q =
    ap (λ (o : Option (List HistoryEntry)). unwrap_or o []) (get-insert key_cmp_total h k x q ∙ ap (λ (b : Bool). cond b (Some x) (get h q)) (key_ties q k))
    ∙ by (is_same_key q k)
  where
    by : (b : Bool) → unwrap_or (cond b (Some x) (get h q)) [] ≡ cond b x (entries_at h q)
    by true = refl
    by false = refl

abbrev entry_of : List NewEntry → ℕ → NewEntry
entry_of all i = get_or all i no_entry

one_more : (all : List NewEntry) (k : StateKey) (n : ℕ) → n < length all
    → entries_before all k (suc n) ≡ cond (is_of k (entry_of all n)) ((entry_of all n).entry ∷ entries_before all (entry_of all n).key n) (entries_before all k n)
one_more all k n lt =
    let e = entry_of all n in
    ap (λ es. entries_at (history_of es) k) (take-suc all n no_entry lt)
    ∙ ap (λ es. entries_at (with_entries empty es) k) (map-append (λ (x : NewEntry). (x.key, x.entry)) (take n all) (e ∷ []))
    ∙ ap (λ h. entries_at h k) (with_entries-push empty (entries_in (take n all)) (e.key, e.entry))
    ∙ inserted (history_of (take n all)) e.key (e.entry ∷ entries_before all e.key n) k

-- ---- along the places

pub chained : (all : List NewEntry) (k : StateKey) (n : ℕ) → n ≤ length all → IsChain k all (last_before all k n)
chained all k n h =
    let le : n ≤ length (hashes_of all) = omega (arith, h, length-map all (λ (e : NewEntry). key_hash e.key)) in
    let bound : last_before all k n ≤ n = before-bound (λ x. x == key_hash k) (hashes_of all) n le in
    (omega (arith, bound, h), before-still (λ x. x == key_hash k) (hashes_of all) n le)

-- what is found before a place
abbrev pub IsOlder : List NewEntry → ℕ → ℕ → Type 0
IsOlder all p older = older ≡ last_with (get_or (hashes_of all) p 0) (take p (hashes_of all))

hash_at : (all : List NewEntry) (p : ℕ) → p < length all → get_or (hashes_of all) p 0 ≡ key_hash (entry_of all p).key
hash_at all p lt = get_or-map (λ (e : NewEntry). key_hash e.key) all p no_entry 0 lt

same_hash : (all : List NewEntry) (k : StateKey) (p : ℕ) → p < length all → IsChain k all (suc p) → key_hash (entry_of all p).key ≡ key_hash k
same_hash all k p lt chain =
    sym (hash_at all p lt)
    ∙ eqb-true (get_or (hashes_of all) p 0) (key_hash k)
    (before-hit (λ x. x == key_hash k) (hashes_of all) p 0 (omega (arith, lt, length-map all (λ (e : NewEntry). key_hash e.key))) chain.1)

-- what a place leads to
pub record Leads (k : StateKey) (all : List NewEntry) (place older : ℕ) (entries : List HistoryEntry) : Type 0 where
  pub chain : IsChain k all older
  pub rest : entries_before all k place ≡ entries ++ entries_before all k older
  pub below : older < place

leads : (all : List NewEntry) (k : StateKey) (p older : ℕ) → p < length all → IsOlder all p older → key_hash (entry_of all p).key ≡ key_hash k
    → (entries : List HistoryEntry) → entries_before all k (suc p) ≡ entries ++ entries_before all k p → Leads k all (suc p) older entries
leads all k p older lt is same entries e =
    let o : older ≡ last_before all k p = is ∙ ap (λ h. last_with h (take p (hashes_of all))) (hash_at all p lt ∙ same) in
    let bound : last_before all k p ≤ p = before-bound (λ x. x == key_hash k) (hashes_of all) p (omega (arith, lt, length-map all (λ (x : NewEntry). key_hash x.key))) in
    record {
      chain = subst (IsChain k all) (sym o) (chained all k p (omega arith));
      rest = e ∙ ap (λ es. entries ++ es) (sym (jumped all k p (omega arith)) ∙ ap (entries_before all k) (sym o));
      below = omega (arith, o, bound);
    }

-- an entry of another key is skipped
pub passed_over : (all : List NewEntry) (k : StateKey) (place older : ℕ) → IsChain k all place → 0 < place → IsOlder all (place - 1) older → is_same_key k (entry_of all (place - 1)).key ≡ false
    → Leads k all place older []
passed_over all k place older chain some is differs =
    let p = place - 1 in
    let e : suc p ≡ place = omega arith in
    let here : IsChain k all (suc p) = subst (IsChain k all) (sym e) chain in
    let lt : p < length all = omega (arith, chain.0) in
    subst (λ n. Leads k all n older []) e
    (leads all k p older lt is (same_hash all k p lt here) []
    (one_more all k p lt ∙ ap (λ (b : Bool). cond b ((entry_of all p).entry ∷ entries_before all (entry_of all p).key p) (entries_before all k p)) differs))

-- one of the key is the first
pub found : (all : List NewEntry) (k : StateKey) (place older : ℕ) → place ≤ length all → 0 < place → IsOlder all (place - 1) older → (entry_of all (place - 1)).key ≡ k
    → Leads k all place older ((entry_of all (place - 1)).entry ∷ [])
found all k place older bound some is own =
    let p = place - 1 in
    let l = entry_of all p in
    let e : suc p ≡ place = omega arith in
    let lt : p < length all = omega arith in
    subst (λ n. Leads k all n older (l.entry ∷ [])) e
    (leads all k p older lt is (ap key_hash own) (l.entry ∷ [])
    (one_more all k p lt
    ∙ ap (λ (b : Bool). cond b (l.entry ∷ entries_before all l.key p) (entries_before all k p)) (ap (λ q. is_same_key q l.key) (sym own) ∙ same_as_itself l.key)
    ∙ ap (λ q. l.entry ∷ entries_before all q p) own))

pub no_entries : (all : List NewEntry) (k : StateKey) → entries_before all k 0 ≡ []
no_entries all k = ap (λ h. entries_at h k) (with_entries-none empty) ∙ ap (λ (o : Option (List HistoryEntry)). unwrap_or o []) (get-empty {X = List HistoryEntry} key_cmp k)

-- ---- from the last place of the hash on

module _ (all : List NewEntry) (hashes : List ℕ) (k : StateKey) (hash place : ℕ) (same : hashes ≡ hashes_of all) (hashed : hash ≡ key_hash k) (placed : place ≡ last_with hash hashes) where
  last : place ≡ last_before all k (length all)
  last =
      placed ∙ (λ i. last_with (hashed i) (same i))
      ∙ ap (last_with (key_hash k)) (sym (take_all (length all) (hashes_of all) (omega (arith, length-map all (λ (e : NewEntry). key_hash e.key)))))

  pub last_chain : IsChain k all place
  last_chain = subst (IsChain k all) (sym last) (chained all k (length all) (omega arith))

  pub last_entries : entries_before all k place ≡ entries_at (history_of all) k
  last_entries =
      ap (entries_before all k) last ∙ jumped all k (length all) (omega arith)
      ∙ ap (λ es. entries_at (history_of es) k) (take_all (length all) all (omega arith))
