-- Where entries are, when one list more comes.
use Rattle.std.proofs.Common.{◌≡◌, ◌⊎◌, inl, inr, ℕ, ◌+◌, ◌-◌, ◌<◌, ◌≤◌, true, false, List, [], ◌∷◌, ◌++◌, length, replicate, get_or, sym, ap, subst, ◌∙◌, arith}
use Rattle.std.specs.FinMap.{empty}
use Rattle.std.proofs.Math.ListN.{get_or-append}
use Rattle.std.proofs.Math.Dec.{leb}
use Rattle.std.proofs.lemmas.Bool.Decides.{leb_tells}
use Rattle.std.proofs.lemmas.Grind.{flat_map-append}
use Rattle.std.proofs.lemmas.List.{append-nil, length-append, length-replicate, get_or-append_right, get_or-replicate, get_or_push, map-append}
use Rattle.rules.specs.declared.delta.NewEntry.{NewEntry}
use Rattle.rules.specs.Delta.{entries_in}
use Rattle.rules.specs.History.{with_entries}
use Rattle.rules.proofs.HistoryEntries.{with_entries-append, with_entries-none}
use Rattle.history_index.specs.declared.lists.Listed.{Listed}
use Rattle.history_index.specs.Hash.{key_hash}
use Rattle.history_index.specs.Lists.{all_entries, no_entry, no_list, hashes_of, history_of, AreIn, IsIn}

pub no_history : (lists : List Listed) → lists ≡ [] → history_of (all_entries lists) ≡ empty
no_history lists e = ap (λ ls. history_of (all_entries ls)) e ∙ with_entries-none empty

module _ (lists : List Listed) (l : Listed) where
  all_more : all_entries (lists ++ l ∷ []) ≡ all_entries lists ++ l.entries
  all_more = flat_map-append (λ (x : Listed). x.entries) lists (l ∷ []) ∙ ap (λ es. all_entries lists ++ es) (append-nil l.entries)

  pub history_more : history_of (all_entries (lists ++ l ∷ [])) ≡ with_entries (history_of (all_entries lists)) (entries_in l.entries)
  history_more =
      ap history_of all_more
      ∙ ap (with_entries empty) (map-append (λ (e : NewEntry). (e.key, e.entry)) (all_entries lists) l.entries)
      ∙ with_entries-append empty (entries_in (all_entries lists)) (entries_in l.entries)

  pub hashes_more : hashes_of (all_entries (lists ++ l ∷ [])) ≡ hashes_of (all_entries lists) ++ hashes_of l.entries
  hashes_more = ap hashes_of all_more ∙ map-append (λ (e : NewEntry). key_hash e.key) (all_entries lists) l.entries

  module _ (list_of : List ℕ) (are : AreIn lists list_of) (first : l.first ≡ length list_of) where
    abbrev numbers : List ℕ
    numbers = list_of ++ replicate (length l.entries) (length lists)

    abbrev IsWell : ℕ → ℕ → Type 0
    IsWell i n = (n < length (lists ++ l ∷ [])) × IsIn (all_entries (lists ++ l ∷ [])) i (get_or (lists ++ l ∷ []) n no_list)

    count : length numbers ≡ length list_of + length l.entries
    count = length-append list_of (replicate (length l.entries) (length lists)) ∙ ap (λ n. length list_of + n) (length-replicate (length l.entries) (length lists))

    -- an earlier one is where it was
    earlier : (i : ℕ) → i < length list_of → IsWell i (get_or list_of i 0)
    earlier i lt =
        let n = get_or list_of i 0 in
        let within : n < length lists = are.numbers i lt in
        let was : IsIn (all_entries lists) i (get_or lists n no_list) = are.places i lt in
        let here : i < length (all_entries lists) = omega (arith, lt, are.count) in (
          omega (arith, within, length-append lists (l ∷ [])),
          subst (IsIn (all_entries (lists ++ l ∷ [])) i) (sym (get_or-append lists (l ∷ []) no_list n within)) (record {
            from = was.from;
            within = was.within;
            same = was.same ∙ sym (ap (λ es. get_or es i no_entry) all_more ∙ get_or-append (all_entries lists) l.entries no_entry i here);
          }),
        )

    -- one of the list is in it
    later : (i : ℕ) → length list_of ≤ i → i < length numbers → IsWell i (length lists)
    later i le lt =
        let from : l.first ≤ i = omega arith in (
          omega (arith, length-append lists (l ∷ [])),
          subst (IsIn (all_entries (lists ++ l ∷ [])) i) (sym (get_or_push lists l no_list (length lists) (λ _. length lists))) (record {
            from = from;
            within = omega (arith, le, lt, first, count);
            same = sym (ap (λ es. get_or es i no_entry) all_more ∙ get_or-append_right (all_entries lists) l.entries l.first i no_entry (omega (arith, are.count, first)) from);
          }),
        )

    well : (i : ℕ) → i < length numbers → IsWell i (get_or numbers i 0)
    well i lt = by (leb_tells (length list_of) i)
      where
        by : ((leb (length list_of) i ≡ true) × (length list_of ≤ i)) ⊎ ((leb (length list_of) i ≡ false) × (i < length list_of)) → IsWell i (get_or numbers i 0)
        by (inl g) =
            let n : get_or numbers i 0 ≡ length lists =
            get_or-append_right list_of (replicate (length l.entries) (length lists)) (length list_of) i 0 (λ _. length list_of) g.1
            ∙ get_or-replicate (length l.entries) (i - length list_of) (length lists) 0 (omega (arith, g.1, lt, count)) in
            subst (IsWell i) (sym n) (later i g.1 lt)
        by (inr g) = subst (IsWell i) (sym (get_or-append list_of (replicate (length l.entries) (length lists)) 0 i g.1)) (earlier i g.1)

    pub all_in : AreIn (lists ++ l ∷ []) numbers
    all_in = record {
      count = count ∙ ap (λ n. n + length l.entries) are.count ∙ sym (ap length all_more ∙ length-append (all_entries lists) l.entries);
      numbers = λ i lt. (well i lt).0;
      places = λ i lt. (well i lt).1;
    }
