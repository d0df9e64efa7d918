-- The history after more entries, list by list and key by key.
use Rattle.std.proofs.Common.{◌≡◌, Bool, true, false, cond, List, [], ◌∷◌, ◌++◌, map, Option, Some, refl, sym, ap, ◌∙◌}
use Rattle.std.specs.Prelude.{filter, reverse, unwrap_or}
use Rattle.std.specs.FinMap.{get, insert, get-insert}
use Rattle.std.proofs.lemmas.List.{append_assoc, reverse-append}
use Rattle.rules.specs.declared.history.HistoryEntry.{HistoryEntry}
use Rattle.rules.specs.State.{StateKey, is_same_key}
use Rattle.rules.specs.History.{History, entries_at, with_entries}
use Rattle.rules.proofs.Keys.{key_cmp_total, key_ties, same_key_is}

-- ---- list by list

pub with_entries-append : (h : History) (es fs : List (StateKey × HistoryEntry)) → with_entries h (es ++ fs) ≡ with_entries (with_entries h es) fs
unfolding with_entries
with_entries-append h [] fs = refl
with_entries-append h (e ∷ es) fs = with_entries-append (insert h e.0 (e.1 ∷ entries_at h e.0)) es fs

pub with_entries-none : (h : History) → with_entries h [] ≡ h
unfolding with_entries
with_entries-none h = refl

pub with_entries-one : (h : History) (e : StateKey × HistoryEntry) → with_entries h (e ∷ []) ≡ insert h e.0 (e.1 ∷ entries_at h e.0)
unfolding with_entries
with_entries-one h e = refl

-- one entry more at the end
pub with_entries-push : (h : History) (es : List (StateKey × HistoryEntry)) (e : StateKey × HistoryEntry)
    → with_entries h (es ++ e ∷ []) ≡ insert (with_entries h es) e.0 (e.1 ∷ entries_at (with_entries h es) e.0)
with_entries-push h es e = with_entries-append h es (e ∷ []) ∙ with_entries-one (with_entries h es) e

-- ---- key by key

-- those of a key, the newest first
abbrev pub newest_first : StateKey → List (StateKey × HistoryEntry) → List HistoryEntry
newest_first k es = reverse (map (λ e. e.1) (filter (λ e. is_same_key k e.0) es))

get-inserted : (h : History) (k : StateKey) (x : List HistoryEntry) (q : StateKey) → entries_at (insert h k x) q ≡ unwrap_or (cond (is_same_key q k) (Some x) (get h q)) []
get-inserted h k x q =
    ap (λ (o : Option (List HistoryEntry)). unwrap_or o []) (get-insert key_cmp_total h k x q ∙ ap (λ (b : Bool). cond b (Some x) (get h q)) (key_ties q k))

pub entries_at-with_entries : (h : History) (es : List (StateKey × HistoryEntry)) (k : StateKey) → entries_at (with_entries h es) k ≡ newest_first k es ++ entries_at h k
unfolding with_entries
entries_at-with_entries h [] k = refl
entries_at-with_entries h (e ∷ es) k =
    entries_at-with_entries (insert h e.0 (e.1 ∷ entries_at h e.0)) es k
    ∙ ap (λ (l : List HistoryEntry). newest_first k es ++ l) (get-inserted h e.0 (e.1 ∷ entries_at h e.0) k)
    ∙ by (is_same_key k e.0) refl
  where
    by : (b : Bool) → is_same_key k e.0 ≡ b
        → newest_first k es ++ unwrap_or (cond b (Some (e.1 ∷ entries_at h e.0)) (get h k)) [] ≡ reverse (map (λ x. x.1) (cond b (e ∷ filter (λ x. is_same_key k x.0) es) (filter (λ x. is_same_key k x.0) es))) ++ entries_at h k
    by true same =
        ap (λ (q : StateKey). newest_first k es ++ e.1 ∷ entries_at h q) (sym (same_key_is k e.0 same))
        ∙ sym (append_assoc (newest_first k es) (e.1 ∷ []) (entries_at h k))
        ∙ ap (λ (l : List HistoryEntry). l ++ entries_at h k) (sym (reverse-append (e.1 ∷ []) (map (λ x. x.1) (filter (λ x. is_same_key k x.0) es))))
    by false same = refl
