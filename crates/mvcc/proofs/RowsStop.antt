-- Rows in the bounds of a range rise: where one isn't compared, none behind it is.
use Rattle.std.proofs.Common.{◌≡◌, ℕ, Bool, true, false, cond, not, ◌&&◌, ◌||◌, List, [], ◌∷◌, map, Option, Some, None, T, refl, sym, ap, subst, ◌∙◌}
use Rattle.std.specs.declared.cmp.Ordering.{Ordering}
use Rattle.std.specs.declared.cmp.Ordering.TheVariants.{Less, Equal, Greater}
use Rattle.std.specs.Ordering.{is_lt, is_le, is_eq, ordering_then}
use Rattle.std.specs.Cmp.{tied_itself}
use Rattle.std.specs.Cmp.Lexicographic.{bytes_decides, nat_list_cmp_total}
use Rattle.std.specs.Prelude.{is_none}
use Rattle.std.specs.List.{list_any, list_all, last_or, filter}
use Rattle.std.specs.Str.{bytes_eq}
use Rattle.std.specs.FinMap.{entries, entries_sorted, is_sorted}
use Rattle.std.specs.FinMap.Entries.{below_all}
use Rattle.transaction.specs.declared.transaction.Range.{Range}
use Rattle.transaction.specs.declared.transaction.KeyVersion.{KeyVersion}
use Rattle.values.specs.Order.{bytes_cmp}
use Rattle.rules.specs.declared.row.Row.{Row}
use Rattle.rules.specs.State.{State, StateKey, key_cmp, version_in}
use Rattle.rules.specs.Ranges.{is_within, is_up_to, is_compared, rows_where}
use Rattle.rules.proofs.Booleans.{both_true, neither, and-false}
use Rattle.rules.proofs.Keys.{bytes_ties}
use Rattle.mvcc.specs.RangeChecks.{is_result, is_listed, StopCompared}
use Rattle.mvcc.proofs.Results.{first_T, second_T}

-- ---- the order

less : (o : Ordering) → T (is_lt o) → o ≡ Less
less Less p = refl
less Equal p = absurd p
less Greater p = absurd p

at_most_before : (q x l : List ℕ) → bytes_cmp q x ≡ Less → is_le (bytes_cmp x l) ≡ true → is_le (bytes_cmp q l) ≡ true
at_most_before q x l before most = by (bytes_cmp x l) refl most
  where
    by : (o : Ordering) → bytes_cmp x l ≡ o → is_le o ≡ true → is_le (bytes_cmp q l) ≡ true
    by Less e m = ap is_le (nat_list_cmp_total.trans q x l before e)
    by Equal e m = let same : x ≡ l = (bytes_decides x l).0 (sym (bytes_ties x l) ∙ ap is_eq e) in ap (λ (y : List ℕ). is_le (bytes_cmp q y)) (sym same) ∙ ap is_le before
    by Greater e m = absurd cc

-- what comes behind a key that is behind the last result is behind it too
still_behind : (q x : List ℕ) (last : Option KeyVersion) → bytes_cmp q x ≡ Less → is_up_to q last ≡ false → is_up_to x last ≡ false
still_behind q x None before behind = refl
still_behind q x (Some l) before behind = by (is_le (bytes_cmp x l.key)) refl
  where
    by : (b : Bool) → is_le (bytes_cmp x l.key) ≡ b → b ≡ false
    by false e = refl
    by true e = sym (at_most_before q x l.key before e) ∙ behind

-- within a namespace keys rise by their second parts
own_order : (a b : StateKey) → a.0 ≡ b.0 → key_cmp a b ≡ bytes_cmp a.1 b.1
own_order a b same = ap (λ (n : List ℕ). ordering_then (bytes_cmp a.0 n) (bytes_cmp a.1 b.1)) (sym same) ∙ ap (λ (o : Ordering). ordering_then o (bytes_cmp a.1 b.1)) (tied_itself nat_list_cmp_total a.0)

-- ---- rows

module _ (namespace : List ℕ) (r : Range) where
  abbrev is_kept : StateKey × Row → Bool
  is_kept e = bytes_eq namespace e.0.0 && is_within r.start r.end e.0.1

  abbrev keys_kept : List (StateKey × Row) → List (List ℕ)
  keys_kept es = map (λ e. e.0.1) (filter is_kept es)

  later : (q x : List ℕ) → bytes_cmp q x ≡ Less → is_within r.start r.end q ≡ true → is_compared r q ≡ false → is_compared r x ≡ false
  later q x before within not_compared =
      let last = last_or None r.results in
      let out : (r.exhausted || is_up_to q last) ≡ false = ap (λ (b : Bool). b && (r.exhausted || is_up_to q last)) (sym within) ∙ not_compared in
      let past = neither r.exhausted (is_up_to q last) out in
      (λ i. is_within r.start r.end x && (past.0 i || still_behind q x last before past.1 i)) ∙ and-false (is_within r.start r.end x)

  none_behind : (k : StateKey) → bytes_eq namespace k.0 ≡ true → is_within r.start r.end k.1 ≡ true → is_compared r k.1 ≡ false → (es : List (StateKey × Row)) → T (below_all key_cmp k es) → list_any (is_compared r) (keys_kept es) ≡ false
  none_behind k own within not_compared [] below = refl
  none_behind k own within not_compared (e ∷ es) below =
      by (is_kept e) refl (none_behind k own within not_compared es (second_T (is_lt (key_cmp k e.0)) (below_all key_cmp k es) below))
    where
      by : (b : Bool) → is_kept e ≡ b → list_any (is_compared r) (keys_kept es) ≡ false → list_any (is_compared r) (map (λ x. x.0.1) (cond b (e ∷ filter is_kept es) (filter is_kept es))) ≡ false
      by false kept rest = rest
      by true kept rest =
          let same : k.0 ≡ e.0.0 = sym ((bytes_decides namespace k.0).0 own) ∙ (bytes_decides namespace e.0.0).0 (both_true (bytes_eq namespace e.0.0) (is_within r.start r.end e.0.1) kept).0 in
          let before : bytes_cmp k.1 e.0.1 ≡ Less = sym (own_order k e.0 same) ∙ less (key_cmp k e.0) (first_T (is_lt (key_cmp k e.0)) (below_all key_cmp k es) below) in
          λ i. later k.1 e.0.1 before within not_compared i || rest i

  stop : (es : List (StateKey × Row)) → T (is_sorted key_cmp es) → StopCompared r (keys_kept es)
  stop [] rising = tt
  stop (e ∷ es) rising = by (is_kept e) refl (stop es (second_T (below_all key_cmp e.0 es) (is_sorted key_cmp es) rising))
    where
      by : (b : Bool) → is_kept e ≡ b → StopCompared r (keys_kept es) → StopCompared r (map (λ x. x.0.1) (cond b (e ∷ filter is_kept es) (filter is_kept es)))
      by false kept rest = rest
      by true kept rest =
          let own = both_true (bytes_eq namespace e.0.0) (is_within r.start r.end e.0.1) kept in
          ((λ not_compared. none_behind e.0 own.0 own.1 not_compared es (first_T (below_all key_cmp e.0 es) (is_sorted key_cmp es) rising)), rest)

  pub rows_stop : (s : State) (rows : List (StateKey × Row)) → rows ≡ rows_where s namespace (is_within r.start r.end) → StopCompared r (map (λ e. e.0.1) rows)
  rows_stop s rows all = subst (λ (es : List (StateKey × Row)). StopCompared r (map (λ e. e.0.1) es)) (sym all) (stop (entries s) (entries_sorted s))

-- keys that aren't compared pass
pub uncompared_pass : (s : State) (namespace : List ℕ) (r : Range) (qs : List (List ℕ)) → list_any (is_compared r) qs ≡ false → list_all (is_listed s namespace r) qs ≡ true
uncompared_pass s namespace r [] none = refl
uncompared_pass s namespace r (q ∷ qs) none =
    let apart = neither (is_compared r q) (list_any (is_compared r) qs) none in
    λ i. (not (apart.0 i) || is_result r q || is_none (version_in s (namespace, q))) && uncompared_pass s namespace r qs apart.1 i

-- so where the first of what is left isn't compared, all of it passes
pub rest_passes : (s : State) (namespace : List ℕ) (r : Range) (left rest : List (List ℕ)) (q : List ℕ) → left ≡ q ∷ rest → StopCompared r left → is_compared r q ≡ false → list_all (is_listed s namespace r) left ≡ true
rest_passes s namespace r left rest q first stops not_compared =
    let here = subst (StopCompared r) first stops in
    uncompared_pass s namespace r left (ap (list_any (is_compared r)) first ∙ (λ i. not_compared i || here.0 not_compared i))

pub still_stop : (r : Range) (left rest : List (List ℕ)) (q : List ℕ) → left ≡ q ∷ rest → StopCompared r left → StopCompared r rest
still_stop r left rest q first stops = (subst (StopCompared r) first stops).1
