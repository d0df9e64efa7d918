-- The history that entries make, key by key.
use Rattle.std.proofs.Common.{◌≡◌, List, [], ◌∷◌, ◌++◌, map, refl, sym, ap, ◌∙◌, append-nil}
use Rattle.std.specs.Prelude.{reverse, unwrap_or}
use Rattle.std.specs.FinMap.{empty, get-empty}
use Rattle.std.proofs.lemmas.List.{map-append, reverse-append}
use Rattle.rules.specs.declared.delta.NewEntry.{NewEntry}
use Rattle.rules.specs.declared.history.HistoryEntry.{HistoryEntry}
use Rattle.rules.specs.State.{StateKey, key_cmp}
use Rattle.rules.specs.History.{entries_at, with_entries}
use Rattle.rules.specs.Delta.{entries_in}
use Rattle.rules.proofs.HistoryEntries.{newest_first, entries_at-with_entries}
use Rattle.plain.specs.Entries.{entries_for}

pub map-reversed : {X Y : Type 0} (f : X → Y) (xs : List X) → map f (reverse xs) ≡ reverse (map f xs)
map-reversed f [] = refl
map-reversed f (x ∷ xs) =
    ap (map f) (reverse-append (x ∷ []) xs) ∙ map-append f (reverse xs) (x ∷ []) ∙ ap (λ l. l ++ f x ∷ []) (map-reversed f xs) ∙ sym (reverse-append (f x ∷ []) (map f xs))

pub history_of : (k : StateKey) (es : List NewEntry) → entries_at (with_entries empty (entries_in es)) k ≡ reverse (entries_for k es)
history_of k es =
    entries_at-with_entries empty (entries_in es) k
    ∙ ap (λ o. newest_first k (entries_in es) ++ unwrap_or o []) (get-empty {X = List HistoryEntry} key_cmp k)
    ∙ append-nil (newest_first k (entries_in es))
