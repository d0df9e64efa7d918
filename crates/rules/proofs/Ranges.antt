-- A range that holds, key by key.
use Rattle.std.proofs.Common.{◌≡◌, ℕ, Bool, true, false, cond, ◌&&◌, List, [], ◌∷◌, map, Option, Some, None, T, Ordering, refl, sym, ap, subst, ◌∙◌, eq-eqb}
use Rattle.std.specs.Prelude.{filter, option_map, IsTrue, ◌==◌, ◌↔◌}
use Rattle.std.proofs.lemmas.Bool.{eqb-true}
use Rattle.std.specs.Ordering.{is_lt, ordering_then, eq_by_cmp}
use Rattle.std.specs.Str.{bytes_eq}
use Rattle.std.specs.Cmp.Lexicographic.{pointwise_decides, bytes_decides, nat_list_cmp_total}
use Rattle.std.specs.Cmp.{tied_itself}
use Rattle.std.specs.FinMap.{entries, entries_sorted, get-entries, find, is_sorted, slice_cmp-IsAntisymmetric, nat_cmp-IsAntisymmetric}
use Rattle.std.specs.FinMap.Entries.{below_all, same_entries}
use Rattle.transaction.specs.declared.transaction.Version.{Version}
use Rattle.transaction.specs.declared.transaction.Range.{Range}
use Rattle.transaction.specs.Same.{is_same_version}
use Rattle.values.specs.Order.{bytes_cmp}
use Rattle.rules.specs.declared.row.Row.{Row}
use Rattle.rules.specs.State.{StateKey, State, key_cmp, version_in}
use Rattle.rules.specs.Ranges.{is_compared, versions_now, results_of, is_same_result, range_holds}
use Rattle.rules.proofs.Booleans.{both_true}
use Rattle.rules.proofs.Keys.{bytes_ties, key_ties}

abbrev version_at : Option Row → Option Version
version_at o = option_map (λ r. r.version) o

-- one row more, by whether it is of the namespace, passes the test, and has the key
one_more : (ours passes here asked : Bool) → (here ≡ true → asked ≡ passes) → (row : Row) (others : Option Row) (rest : Option Version) → rest ≡ cond asked (version_at others) None
    → cond (ours && passes) (cond here (Some row.version) rest) rest ≡ cond asked (version_at (cond (ours && here) (Some row) others)) None
one_more true true true asked h row others rest e = rw (h refl) refl
one_more true true false asked h row others rest e = e
one_more true false true asked h row others rest e = e ∙ rw (h refl) refl
one_more true false false asked h row others rest e = e
one_more false passes here asked h row others rest e = e

both_T : (a b : Bool) → T a → T b → T (a && b)
both_T true b p q = q
both_T false b p q = p

left_T : (a b : Bool) → T (a && b) → T a
left_T true b p = tt
left_T false b p = p

right_T : (a b : Bool) → T (a && b) → T b
right_T true b p = p
right_T false b p = absurd p

module _ (namespace : List ℕ) (test : List ℕ → Bool) where
  abbrev passes : StateKey × Row → Bool
  passes e = bytes_eq namespace e.0.0 && test e.0.1

  abbrev versions : List (StateKey × Row) → List (List ℕ × Version)
  versions es = map (λ e. (e.0.1, e.1.version)) es

  abbrev kept : List (StateKey × Row) → List (List ℕ × Version)
  kept es = versions (filter passes es)

  find-if : (b : Bool) (e : StateKey × Row) (es : List (StateKey × Row)) (q : List ℕ)
      → find bytes_cmp q (versions (cond b (e ∷ es) es)) ≡ cond b (cond (eq_by_cmp bytes_cmp q e.0.1) (Some e.1.version) (find bytes_cmp q (versions es))) (find bytes_cmp q (versions es))
  find-if true e es q = refl
  find-if false e es q = refl

  none_either : (b : Bool) → ◌≡◌ {A = Option Version} None (cond b None None)
  none_either true = refl
  none_either false = refl

  -- what the kept rows have at a key
  find-kept : (es : List (StateKey × Row)) (q : List ℕ) → find bytes_cmp q (kept es) ≡ cond (test q) (version_at (find key_cmp (namespace, q) es)) None
  find-kept [] q = none_either (test q)
  find-kept (e ∷ es) q =
      find-if (passes e) e (filter passes es) q
      ∙ ap (λ (b : Bool). cond (passes e) (cond b (Some e.1.version) (find bytes_cmp q (kept es))) (find bytes_cmp q (kept es))) (bytes_ties q e.0.1)
      ∙ one_more (bytes_eq namespace e.0.0) (test e.0.1) (bytes_eq q e.0.1) (test q) (λ h. ap test ((bytes_decides q e.0.1).0 h)) e.1 (find key_cmp (namespace, q) es) (find bytes_cmp q (kept es)) (find-kept es q)
      ∙ ap (λ (b : Bool). cond (test q) (version_at (cond b (Some e.1) (find key_cmp (namespace, q) es))) None) (sym (key_ties (namespace, q) e.0))

  -- within the namespace the order of keys is that of their second parts
  ours_first : (a b : StateKey) → bytes_eq namespace a.0 ≡ true → bytes_eq namespace b.0 ≡ true → key_cmp a b ≡ bytes_cmp a.1 b.1
  ours_first a b h g =
      let one : a.0 ≡ b.0 = sym ((bytes_decides namespace a.0).0 h) ∙ (bytes_decides namespace b.0).0 g in
      ap (λ (x : List ℕ). ordering_then (bytes_cmp a.0 x) (bytes_cmp a.1 b.1)) (sym one) ∙ ap (λ (r : Ordering). ordering_then r (bytes_cmp a.1 b.1)) (tied_itself nat_list_cmp_total a.0)

  below-kept : (x : StateKey) → bytes_eq namespace x.0 ≡ true → (es : List (StateKey × Row)) → T (below_all key_cmp x es) → T (below_all bytes_cmp x.1 (kept es))
  below-kept x own [] h = tt
  below-kept x own (e ∷ es) h =
      by (passes e) refl (below-kept x own es (right_T (is_lt (key_cmp x e.0)) (below_all key_cmp x es) h)) (left_T (is_lt (key_cmp x e.0)) (below_all key_cmp x es) h)
    where
      by : (b : Bool) → passes e ≡ b → T (below_all bytes_cmp x.1 (kept es)) → T (is_lt (key_cmp x e.0)) → T (below_all bytes_cmp x.1 (versions (cond b (e ∷ filter passes es) (filter passes es))))
      by true i rest here = both_T _ _ (subst (λ (r : Ordering). T (is_lt r)) (ours_first x e.0 own (both_true (bytes_eq namespace e.0.0) (test e.0.1) i).0) here) rest
      by false i rest here = rest

  -- the kept rows strictly rise
  sorted-kept : (es : List (StateKey × Row)) → T (is_sorted key_cmp es) → T (is_sorted bytes_cmp (kept es))
  sorted-kept [] h = tt
  sorted-kept (e ∷ es) h =
      by (passes e) refl (sorted-kept es (right_T (below_all key_cmp e.0 es) (is_sorted key_cmp es) h)) (left_T (below_all key_cmp e.0 es) (is_sorted key_cmp es) h)
    where
      by : (b : Bool) → passes e ≡ b → T (is_sorted bytes_cmp (kept es)) → T (below_all key_cmp e.0 es) → T (is_sorted bytes_cmp (versions (cond b (e ∷ filter passes es) (filter passes es))))
      by true i rest here = both_T _ _ (below-kept e.0 (both_true (bytes_eq namespace e.0.0) (test e.0.1) i).0 es here) rest
      by false i rest here = rest

-- ---- what is compared

-- the version that the state has at a key of the compared part
pub find-versions_now : (s : State) (namespace : List ℕ) (r : Range) (q : List ℕ) → find bytes_cmp q (versions_now s namespace r) ≡ cond (is_compared r q) (version_in s (namespace, q)) None
find-versions_now s namespace r q = find-kept namespace (is_compared r) (entries s) q ∙ ap (λ (o : Option Row). cond (is_compared r q) (version_at o) None) (sym (get-entries s (namespace, q)))

pub sorted-versions_now : (s : State) (namespace : List ℕ) (r : Range) → T (is_sorted bytes_cmp (versions_now s namespace r))
sorted-versions_now s namespace r = sorted-kept namespace (is_compared r) (entries s) (entries_sorted s)

-- two lists of versions that rise and have the same at each key are one
pub same_versions : (a b : List (List ℕ × Version)) → T (is_sorted bytes_cmp a) → T (is_sorted bytes_cmp b) → ((q : List ℕ) → find bytes_cmp q a ≡ find bytes_cmp q b) → a ≡ b
same_versions a b = same_entries bytes_cmp nat_list_cmp_total (slice_cmp-IsAntisymmetric nat_cmp-IsAntisymmetric) a b

pub version_decides : (a b : Version) → (is_same_version a b ≡ true → a ≡ b) × (a ≡ b → is_same_version a b ≡ true)
version_decides a b = (to, λ e. subst (λ (x : Version). is_same_version a x ≡ true) e own)
  where
    to : is_same_version a b ≡ true → a ≡ b
    to e = let h = both_true (a.block == b.block) (a.tx == b.tx) e in λ i. record { block = eqb-true a.block b.block h.0 i; tx = eqb-true a.tx b.tx h.1 i }

    own : is_same_version a a ≡ true
    own = rw (eq-eqb a.block a.block refl, eq-eqb a.tx a.tx refl) refl

result_decides : (a b : List ℕ × Version) → (is_same_result a b ≡ true → a ≡ b) × (a ≡ b → is_same_result a b ≡ true)
result_decides a b = (to, λ e. subst (λ (x : List ℕ × Version). is_same_result a x ≡ true) e own)
  where
    to : is_same_result a b ≡ true → a ≡ b
    to e = let h = both_true (bytes_eq a.0 b.0) (is_same_version a.1 b.1) e in λ i. ((bytes_decides a.0 b.0).0 h.0 i, (version_decides a.1 b.1).0 h.1 i)

    own : is_same_result a a ≡ true
    own = rw ((bytes_decides a.0 a.0).1 refl, (version_decides a.1 a.1).1 refl) refl

-- ---- the law

-- what a range asks of one key
abbrev pub HoldsAtKey : State → List ℕ → Range → List ℕ → Type 0
HoldsAtKey s namespace r q = cond (is_compared r q) (version_in s (namespace, q)) None ≡ find bytes_cmp q (results_of r)

-- a range with strictly rising results holds exactly where it holds at every key
pub range_by_keys : (s : State) (namespace : List ℕ) (r : Range) → IsTrue (is_sorted bytes_cmp (results_of r)) → IsTrue (range_holds s namespace r) ↔ ((q : List ℕ) → HoldsAtKey s namespace r q)
range_by_keys s namespace r rising = (to, from)
  where
    to : IsTrue (range_holds s namespace r) → (q : List ℕ) → HoldsAtKey s namespace r q
    to h q = sym (find-versions_now s namespace r q) ∙ ap (find bytes_cmp q) ((pointwise_decides result_decides (versions_now s namespace r) (results_of r)).0 h)

    from : ((q : List ℕ) → HoldsAtKey s namespace r q) → IsTrue (range_holds s namespace r)
    from h = (pointwise_decides result_decides (versions_now s namespace r) (results_of r)).1 (
        same_versions (versions_now s namespace r) (results_of r) (sorted-versions_now s namespace r) (subst T (sym rising) tt) (λ q. find-versions_now s namespace r q ∙ h q))
