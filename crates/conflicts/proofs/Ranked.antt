-- The lines of a table, sorted, are the ranking.
use Rattle.std.proofs.Common.{◌≡◌, ◌<◌, ◌≤◌, ℕ, ◌+◌, Bool, true, false, cond, List, [], ◌∷◌, ◌++◌, length, get_or, map, Option, Some, None, refl, sym, ap, ◌∙◌, subst, arith, append_assoc}
use Rattle.std.specs.Prelude.{filter, unwrap_or, nat_lt, is_some}
use Rattle.std.specs.declared.cmp.Ordering.{Ordering}
use Rattle.std.specs.declared.cmp.Ordering.TheVariants.{Less, Equal, Greater}
use Rattle.std.specs.Ordering.{eq_by_cmp, is_lt, is_eq, ordering_then, ordering_reverse}
use Rattle.std.specs.Cmp.{eq_by_cmp_equiv}
use Rattle.std.specs.List.{All, Contains, count_by, IsDistinct, list_any}
use Rattle.std.specs.List.Sorted.{IsStrictlySortedBy, IsPermutation, IsSorted}
use Rattle.std.specs.Map.{lookup, keys_of}
use Rattle.std.proofs.lemmas.Bool.{ltb-true, lt-ltb}
use Rattle.std.proofs.lemmas.List.{get_or-map}
use Rattle.std.proofs.lemmas.List.Elements.{All-filter, Contains-get_or, filter_passes}
use Rattle.std.proofs.lemmas.List.Sorted.{All-permutation, Contains-permutation, IsPermutation-map}
use Rattle.std.proofs.lemmas.List.Sums.{get_or-le-sum_by, list_all-from_AllPass}
use Rattle.std.proofs.lemmas.Map.Entries.{lookup-filter-values, option_filter, length-keys_of}
use Rattle.std.proofs.lemmas.Map.Keys.{IsDistinct-from_sorted, IsDistinct-IsPermutation, apart_from_distinct, sorted_from_all_adjacent}
use Rattle.std.proofs.lemmas.Map.Made.{IsDistinct-keys_filter}
use Rattle.std.proofs.lemmas.Map.Views.{Contains-keys_from_lookup, lookup-from_Contains, list_any-from_Contains}
use Rattle.rules.specs.State.{StateKey, key_cmp, is_among}
use Rattle.rules.proofs.Keys.{key_cmp_total, key_ties, same_key_is, same_as_itself}
use Rattle.conflicts.specs.declared.conflict.Conflict.{Conflict}
use Rattle.conflicts.specs.declared.key_counts.KeyCounts.{KeyCounts}
use Rattle.conflicts.specs.declared.kind.Kind.{Kind}
use Rattle.conflicts.specs.declared.kind.Kind.TheVariants.{StaleRead, Phantom, OwnPolicy, PolicyTouched}
use Rattle.conflicts.specs.KeyCounts.{is_of, counts_of, total_of}
use Rattle.conflicts.specs.Ranking.{Line, line_cmp, IsRanking}
use Rattle.conflicts.specs.Tally.{no_counts, CountsKeys, is_line, line_to_list}
use Rattle.conflicts.specs.LineOrder.{line_cmp_total}

-- ---- the loop

pick : (e : Line) (es : List Line) (b : Bool) → is_line e ≡ b → line_to_list e ++ filter is_line es ≡ filter is_line (e ∷ es)
pick e es true h = rw h refl
pick e es false h = rw h refl

pub one_line : (lines es : List Line) (e : Line) → (lines ++ line_to_list e) ++ filter is_line es ≡ lines ++ filter is_line (e ∷ es)
one_line lines es e = append_assoc lines (line_to_list e) (filter is_line es) ∙ ap (λ l. lines ++ l) (pick e es (is_line e) refl)

-- ---- a key with a conflict has a count

abbrev same : StateKey → StateKey → Bool
same = eq_by_cmp key_cmp

exact : (a b : StateKey) → same a b ≡ true → a ≡ b
exact a b e = same_key_is a b (sym (key_ties a b) ∙ e)

module _ (conflicts : List Conflict) where
  one : (p : Conflict → Bool) (i : ℕ) (d : Conflict) → i < length conflicts → p (get_or conflicts i d) ≡ true → 1 ≤ count_by p conflicts
  one p i d l e = rw e at (get_or-le-sum_by (λ x. cond (p x) 1 0) conflicts i d l)

  its : (c : Conflict) (kind : Kind) → c.kind ≡ kind → is_of c.key kind c ≡ true
  its c StaleRead e = rw (same_as_itself c.key, e) refl
  its c Phantom e = rw (same_as_itself c.key, e) refl
  its c OwnPolicy e = rw (same_as_itself c.key, e) refl
  its c PolicyTouched e = rw (same_as_itself c.key, e) refl

  something : (i : ℕ) (d : Conflict) → i < length conflicts → (kind : Kind) → (get_or conflicts i d).kind ≡ kind
      → 0 < total_of (counts_of (get_or conflicts i d).key conflicts)
  something i d l StaleRead e = let c = get_or conflicts i d in let h = one (is_of c.key StaleRead) i d l (its c StaleRead e) in omega (arith, h)
  something i d l Phantom e = let c = get_or conflicts i d in let h = one (is_of c.key Phantom) i d l (its c Phantom e) in omega (arith, h)
  something i d l OwnPolicy e = let c = get_or conflicts i d in let h = one (is_of c.key OwnPolicy) i d l (its c OwnPolicy e) in omega (arith, h)
  something i d l PolicyTouched e = let c = get_or conflicts i d in let h = one (is_of c.key PolicyTouched) i d l (its c PolicyTouched e) in omega (arith, h)

-- ---- the lines

has : (o p : Option KeyCounts) → o ≡ p → 0 < total_of (unwrap_or o no_counts) → (v : KeyCounts) × (o ≡ Some v) × (0 < total_of v)
has o None e h = let bad : 1 ≤ 0 = subst (λ (q : Option KeyCounts). 0 < total_of (unwrap_or q no_counts)) e h in absurd (omega arith)
has o (Some v) e h = (v, e, subst (λ (q : Option KeyCounts). 0 < total_of (unwrap_or q no_counts)) e h)

pub then_equal : (a b : Ordering) → ordering_then a b ≡ Equal → b ≡ Equal
then_equal Less b e = absurd cc
then_equal Equal b e = e
then_equal Greater b e = absurd cc

less : (a b : Line) (o : Ordering) → line_cmp a b ≡ o → is_lt (line_cmp b a) ≡ false → same a.0 b.0 ≡ false → line_cmp a b ≡ Less
less a b Less e up apart = e
less a b Equal e up apart =
    let tied : key_cmp a.0 b.0 ≡ Equal = then_equal _ (key_cmp a.0 b.0) e in
    absurd (cc (ap is_eq tied, apart))
less a b Greater e up apart =
    let back : line_cmp b a ≡ Less = line_cmp_total.antisymm b a ∙ ap ordering_reverse e in
    absurd (cc (ap is_lt back, up))

abbrev nothing : Line
nothing = (([], []), no_counts)

module _ (conflicts : List Conflict) (table lines : List Line) (ordered : IsStrictlySortedBy key_cmp (keys_of table)) (counts : CountsKeys conflicts table)
    (moved : IsPermutation (filter is_line table) lines) (sorted : IsSorted line_cmp lines) where
  distinct : IsDistinct same (keys_of table)
  distinct = IsDistinct-from_sorted key_cmp (keys_of table) ordered

  once : IsDistinct same (keys_of lines)
  once = IsDistinct-IsPermutation same (eq_by_cmp_equiv key_cmp_total).symm (keys_of (filter is_line table)) (keys_of lines)
      (IsPermutation-map (λ e. e.0) (filter is_line table) lines moved) (IsDistinct-keys_filter same is_line table distinct)

  line_counts : (e : Line) → Contains table e → e.1 ≡ counts_of e.0 conflicts
  line_counts e h =
      sym (ap (λ o. unwrap_or o no_counts) (lookup-from_Contains (eq_by_cmp_equiv key_cmp_total) e.0 e.1 table distinct h)) ∙ counts e.0

  passes : (e : Line) → is_line e ≡ true → 0 < total_of e.1
  passes e h = ltb-true 0 (total_of e.1) h

  table_counts : All (λ l. l.1 ≡ counts_of l.0 conflicts) table
  table_counts k d l = line_counts (get_or table k d) (Contains-get_or table k d l)

  lines_count : All (λ l. (l.1 ≡ counts_of l.0 conflicts) × (0 < total_of l.1)) lines
  lines_count = All-permutation (λ l. (l.1 ≡ counts_of l.0 conflicts) × (0 < total_of l.1)) (filter is_line table) lines moved
      (λ k d l. (All-filter is_line (λ e. e.1 ≡ counts_of e.0 conflicts) table table_counts k d l, passes (get_or (filter is_line table) k d) (filter_passes is_line table k d l)))

  -- a key that has a count has a line
  there : (k : StateKey) → 0 < total_of (counts_of k conflicts) → is_among k (map (λ l. l.0) lines) ≡ true
  there k h =
      let found = has (lookup (same k) table) (lookup (same k) table) refl (subst (λ (n : KeyCounts). 0 < total_of n) (sym (counts k)) h) in
      let picked : lookup (same k) (filter is_line table) ≡ Some found.0 =
      lookup-filter-values (eq_by_cmp_equiv key_cmp_total) (λ n. nat_lt 0 (total_of n)) k table distinct
      ∙ ap (option_filter (λ n. nat_lt 0 (total_of n))) found.1
      ∙ ap (λ b. cond b (Some found.0) None) (lt-ltb 0 (total_of found.0) found.2) in
      let kept : Contains (keys_of (filter is_line table)) k = Contains-keys_from_lookup exact k (filter is_line table) (ap is_some picked) in
      let still : Contains (keys_of lines) k = Contains-permutation (keys_of (filter is_line table)) (keys_of lines) k (IsPermutation-map (λ e. e.0) (filter is_line table) lines moved) kept in
      ap (λ (test : StateKey → Bool). list_any test (keys_of lines)) (λ i q. sym (key_ties k q) i) ∙ list_any-from_Contains (eq_by_cmp_equiv key_cmp_total) k (keys_of lines) still

  apart : (k : ℕ) → k + 1 < length lines → same (get_or lines k nothing).0 (get_or lines (k + 1) nothing).0 ≡ false
  apart k l =
      let l' : k < length lines = omega arith in
      let h = apart_from_distinct same (keys_of lines) k (k + 1) nothing.0 once (omega arith) (omega (arith, length-keys_of lines)) in
      ap (λ x. same x (get_or lines (k + 1) nothing).0) (sym (get_or-map (λ (e : Line). e.0) lines k nothing nothing.0 l'))
      ∙ ap (same (get_or (keys_of lines) k nothing.0)) (sym (get_or-map (λ (e : Line). e.0) lines (k + 1) nothing nothing.0 l)) ∙ h

  pub ranked : IsRanking conflicts lines
  ranked = record {
    counts = lines_count;
    all = list_all-from_AllPass (λ c. is_among c.key (map (λ l. l.0) lines)) conflicts
        (λ i d l. there (get_or conflicts i d).key (something conflicts i d l (get_or conflicts i d).kind refl));
    order = sorted_from_all_adjacent line_cmp_total lines nothing
        (λ k l. less (get_or lines k nothing) (get_or lines (k + 1) nothing) (line_cmp (get_or lines k nothing) (get_or lines (k + 1) nothing)) refl (sorted k nothing (omega arith) l) (apart k l));
  }
