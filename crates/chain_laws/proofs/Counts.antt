-- No more rows differ than changes were made.
use Rattle.std.proofs.Common.{◌≡◌, ℕ, suc, ◌-◌, ◌≤◌, Bool, true, false, cond, ◌||◌, List, [], ◌∷◌, length, map, Option, Some, None, T, refl, sym, ap, subst, ◌∙◌, arith}
use Rattle.std.specs.Prelude.{if◌then◌else◌}
use Rattle.std.specs.Ordering.{eq_by_cmp}
use Rattle.std.specs.FinMap.{get, len, empty, remove, contains_key, from_sorted, same_map, get-empty, get-remove, get-from_sorted, len-empty, len-remove, len-entries, entries-from_sorted, is_sorted}
use Rattle.std.proofs.lemmas.List.{length-map}
use Rattle.rules.specs.declared.row.Row.{Row}
use Rattle.rules.specs.State.{StateKey, State, KeyMap, ChangeOf, key_cmp, is_same_key, is_among, set_at, with_changes}
use Rattle.rules.specs.Differing.{differing}
use Rattle.rules.proofs.Booleans.{neither}
use Rattle.rules.proofs.Keys.{key_cmp_total, key_cmp-IsAntisymmetric, key_ties}
use Rattle.rules.proofs.Changes.{get-set_at}
use Rattle.rules.proofs.Differing.{difference, same_itself, sorted-differing, find-differing}

-- ---- a map has no more entries than keys that have them all

one_less : (b : Bool) (l n r : ℕ) → r ≡ cond b (l - 1) l → r ≤ n → l ≤ suc n
one_less true l n r e le = omega (arith, e, le)
one_less false l n r e le = omega (arith, e, le)

few_keys : {X : Type 0} (m : KeyMap X) (ks : List StateKey) → ((q : StateKey) → is_among q ks ≡ false → get m q ≡ None) → len m ≤ length ks
few_keys {X} m [] none =
    let same : m ≡ empty = same_map key_cmp_total key_cmp-IsAntisymmetric m empty (λ q. none q refl ∙ sym (get-empty key_cmp q)) in
    omega (arith, ap len same, len-empty key_cmp X)
few_keys {X} m (k ∷ ks) none =
    one_less (contains_key m k) (len m) (length ks) (len (remove m k)) (len-remove key_cmp_total m k)
    (few_keys (remove m k) ks (λ q apart. get-remove key_cmp_total m k q ∙ by q apart (is_same_key q k) refl))
  where
    by : (q : StateKey) → is_among q ks ≡ false → (b : Bool) → is_same_key q k ≡ b → cond {A = Option X} (eq_by_cmp key_cmp q k) None (get m q) ≡ None
    by q apart true same = ap (λ (b : Bool). cond {A = Option X} b None (get m q)) (key_ties q k ∙ same)
    by q apart false same = ap (λ (b : Bool). cond {A = Option X} b None (get m q)) (key_ties q k ∙ same) ∙ none q (λ i. same i || apart i)

-- ---- changes

-- a key that isn't among those changed
kept : {X : Type 0} (m : KeyMap X) (cs : List (ChangeOf X)) (q : StateKey) → is_among q (map (λ c. c.0) cs) ≡ false → get (with_changes m cs) q ≡ get m q
unfolding with_changes
kept m [] q e = refl
kept {X} m (c ∷ cs) q e =
    let parts = neither (is_same_key q c.0) (is_among q (map (λ c. c.0) cs)) e in
    kept (set_at m c.0 c.1) cs q parts.1 ∙ get-set_at m c.0 c.1 q ∙ ap (λ (b : Bool). cond {A = Option X} b c.1 (get m q)) parts.0

unchanged : (s : State) (cs : List (ChangeOf Row)) (q : StateKey) → is_among q (map (λ (c : ChangeOf Row). c.0) cs) ≡ false → difference (get s q) (get (with_changes s cs) q) ≡ None
unchanged s cs q apart = ap (difference (get s q)) (kept s cs q apart) ∙ ap (λ (b : Bool). if b then None else Some (get s q)) (same_itself (get s q))

pub few_differ : (s : State) (cs : List (ChangeOf Row)) → length (differing s (with_changes s cs)) ≤ length cs
few_differ s cs =
    let rows : List (ChangeOf Row) = differing s (with_changes s cs) in
    let sorted : T (is_sorted key_cmp rows) = subst T (sym (sorted-differing s (with_changes s cs))) tt in
    let m : KeyMap (Option Row) = from_sorted rows in
    let keys : List StateKey = map (λ (c : ChangeOf Row). c.0) cs in
    let few : len m ≤ length keys = few_keys m keys (λ q apart. get-from_sorted key_cmp rows q sorted ∙ find-differing s (with_changes s cs) q ∙ unchanged s cs q apart) in
    omega (arith, few, len-entries m, ap length (entries-from_sorted key_cmp rows sorted), length-map cs (λ (c : ChangeOf Row). c.0))
