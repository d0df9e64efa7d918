-- What a transaction writes, in the order of the keys and with neighbours of one key joined, is what it writes at each
-- key.
use Rattle.std.proofs.Common.{◌≡◌, ◌+◌, ◌<◌, Bool, true, false, cond, ◌&&◌, ◌||◌, List, [], ◌∷◌, map, length, Option, Some, None, is_some, refl, sym, ap, subst, ◌∙◌, arith}
use Rattle.std.specs.Ordering.{eq_by_cmp, is_lt}
use Rattle.std.specs.Cmp.Lexicographic.{nat_list_eq_equiv}
use Rattle.std.specs.Option.{option_or}
use Rattle.std.specs.List.{AllByRecursion, list_any, dedup_from, dedup, IsDistinct}
use Rattle.std.specs.List.Sorted.{IsPermutation, IsSorted, IsSortedByKey}
use Rattle.std.proofs.lemmas.List.{get_or-map, length-map}
use Rattle.std.proofs.lemmas.List.Elements.{All-from_recursion, recursion_from_All}
use Rattle.std.proofs.lemmas.List.Sorted.{IsPermutation-map, All-permutation, list_any-IsPermutation}
use Rattle.std.proofs.lemmas.Map.Keys.{IsDistinct-from_sorted}
use Rattle.transaction.specs.declared.transaction.Tx.{Tx}
use Rattle.rules.specs.State.{StateKey, key_cmp, is_same_key}
use Rattle.rules.specs.Effect.{written_keys}
use Rattle.rules.proofs.Keys.{key_ties, same_key_is, same_as_itself}
use Rattle.candidates.specs.declared.written_key.WrittenKey.{WrittenKey}
use Rattle.candidates.specs.Form.{are_lists_in_form}
use Rattle.candidates.specs.Written.{keys_in_order, value_at, policy_at, IsWriteOf, AreWritesOf}
use Rattle.candidates.specs.Gathering.{single_writes, both_writes, joined_from, joined}
use Rattle.candidates.proofs.KeysInOrder.{sorted_is, keys_rise}
use Rattle.candidates.proofs.Parts.{IsPart, IsPartOf, single_writes_are_parts, has_value, has_policy, value_there, policy_there, single_writes_keys}

-- ---- joined, neighbours keep their keys

keys_from : (k : WrittenKey) (ws : List WrittenKey) → map (λ w. w.key) (joined_from k ws) ≡ dedup_from is_same_key k.key (map (λ w. w.key) ws)
keys_from k [] = refl
keys_from k (w ∷ ws) =
    elim (is_same_key w.key k.key) as (λ b. map (λ x. x.key) (cond b (joined_from (both_writes k w) ws) (k ∷ joined_from w ws)) ≡ cond b (dedup_from is_same_key k.key (map (λ x. x.key) ws)) (k.key ∷ dedup_from is_same_key w.key (map (λ x. x.key) ws))) [
      | true ↦ keys_from (both_writes k w) ws
      | false ↦ ap (λ l. k.key ∷ l) (keys_from w ws)
    ]

joined_keys : (ws : List WrittenKey) → map (λ w. w.key) (joined ws) ≡ dedup is_same_key (map (λ w. w.key) ws)
joined_keys [] = refl
joined_keys (w ∷ ws) = keys_from w ws

-- ---- what one of them has, one has when they are joined

abbrev Joins : (WrittenKey → Bool) → Type 0
Joins p = (a b : WrittenKey) → is_same_key b.key a.key ≡ true → p (both_writes a b) ≡ (p a || p b)

or_assoc : (a b c : Bool) → ((a || b) || c) ≡ (a || (b || c))
or_assoc true b c = refl
or_assoc false b c = refl

any_from : (p : WrittenKey → Bool) → Joins p → (ws : List WrittenKey) (k : WrittenKey) → list_any p (joined_from k ws) ≡ (p k || list_any p ws)
any_from p joins [] k = refl
any_from p joins (w ∷ ws) k =
    elim (is_same_key w.key k.key) as (λ b. is_same_key w.key k.key ≡ b → list_any p (cond b (joined_from (both_writes k w) ws) (k ∷ joined_from w ws)) ≡ (p k || (p w || list_any p ws))) [
      | true ↦ λ e. any_from p joins ws (both_writes k w) ∙ ap (λ b. b || list_any p ws) (joins k w e) ∙ or_assoc (p k) (p w) (list_any p ws)
      | false ↦ λ _. ap (λ b. p k || b) (any_from p joins ws w)
    ] refl

any_joined : (p : WrittenKey → Bool) → Joins p → (ws : List WrittenKey) → list_any p (joined ws) ≡ list_any p ws
any_joined p joins [] = refl
any_joined p joins (w ∷ ws) = any_from p joins ws w

or_there : {A : Type 0} (same : Bool) (a b : Option A) → (same && is_some (option_or a b)) ≡ ((same && is_some a) || (same && is_some b))
or_there true None b = refl
or_there true (Some x) b = refl
or_there false a b = refl

value_joins : (q : StateKey) → Joins (has_value q)
value_joins q a b e = or_there (is_same_key q a.key) a.value b.value ∙ ap (λ k. has_value q a || (is_same_key q k && is_some b.value)) (sym (same_key_is b.key a.key e))

policy_joins : (q : StateKey) → Joins (has_policy q)
policy_joins q a b e = or_there (is_same_key q a.key) a.policy b.policy ∙ ap (λ k. has_policy q a || (is_same_key q k && is_some b.policy)) (sym (same_key_is b.key a.key e))

-- ---- and parts stay parts

either_part : {A : Type 0} (a b whole : Option A) → IsPart a whole → IsPart b whole → IsPart (option_or a b) whole
either_part None b whole p q = q
either_part (Some x) b whole p q = p

both_are_parts : (tx : Tx) (a b : WrittenKey) → is_same_key b.key a.key ≡ true → IsPartOf tx a → IsPartOf tx b → IsPartOf tx (both_writes a b)
both_are_parts tx a b e p q =
    let same = same_key_is b.key a.key e in (
      either_part a.value b.value (value_at tx a.key) p.0 (subst (λ k. IsPart b.value (value_at tx k)) same q.0),
      either_part a.policy b.policy (policy_at tx a.key) p.1 (subst (λ k. IsPart b.policy (policy_at tx k)) same q.1),
    )

parts_from : (tx : Tx) (ws : List WrittenKey) (k : WrittenKey) → IsPartOf tx k → AllByRecursion (IsPartOf tx) ws → AllByRecursion (IsPartOf tx) (joined_from k ws)
parts_from tx [] k p all = (p, tt)
parts_from tx (w ∷ ws) k p all =
    elim (is_same_key w.key k.key) as (λ b. is_same_key w.key k.key ≡ b → AllByRecursion (IsPartOf tx) (cond b (joined_from (both_writes k w) ws) (k ∷ joined_from w ws))) [
      | true ↦ λ e. parts_from tx ws (both_writes k w) (both_are_parts tx k w e p all.0) all.1
      | false ↦ λ _. (p, parts_from tx ws w all.0 all.1)
    ] refl

parts_joined : (tx : Tx) (ws : List WrittenKey) → AllByRecursion (IsPartOf tx) ws → AllByRecursion (IsPartOf tx) (joined ws)
parts_joined tx [] all = tt
parts_joined tx (w ∷ ws) all = parts_from tx ws w all.0 all.1

-- ---- if no key repeats, what is written at a key is its own

abbrev at_key : (WrittenKey → Bool) → StateKey → WrittenKey → Bool
at_key p k w = is_same_key k w.key && p w

none_at : (p : WrittenKey → Bool) (k : StateKey) (ws : List WrittenKey) → AllByRecursion (λ q. eq_by_cmp key_cmp k q ≡ false) (map (λ w. w.key) ws) → list_any (at_key p k) ws ≡ false
none_at p k [] apart = refl
none_at p k (w ∷ ws) apart = rw (sym (key_ties k w.key) ∙ apart.0) (none_at p k ws apart.1)

or_nothing : (b : Bool) → (b || false) ≡ b
or_nothing true = refl
or_nothing false = refl

flip : (a b : StateKey) → is_same_key b a ≡ false → is_same_key a b ≡ false
flip a b h = (λ i. nat_list_eq_equiv.symm a.0 b.0 i && nat_list_eq_equiv.symm a.1 b.1 i) ∙ h

skip : (p : WrittenKey → Bool) (w : WrittenKey) (all ws : List WrittenKey) → AllByRecursion (λ q. eq_by_cmp key_cmp w.key q ≡ false) (map (λ x. x.key) ws) → AllByRecursion (λ x. list_any (at_key p x.key) all ≡ p x) ws → AllByRecursion (λ x. list_any (at_key p x.key) (w ∷ all) ≡ p x) ws
skip p w all [] apart own = tt
skip p w all (x ∷ xs) apart own =
    (ap (λ b. (b && p w) || list_any (at_key p x.key) all) (flip x.key w.key (sym (key_ties w.key x.key) ∙ apart.0)) ∙ own.0, skip p w all xs apart.1 own.1)

one_of_each : (p : WrittenKey → Bool) (ws : List WrittenKey) → IsDistinct (eq_by_cmp key_cmp) (map (λ w. w.key) ws) → AllByRecursion (λ w. list_any (at_key p w.key) ws ≡ p w) ws
unfolding IsDistinct
one_of_each p [] apart = tt
one_of_each p (w ∷ ws) apart = (
  (λ i. (same_as_itself w.key i && p w) || none_at p w.key ws apart.0 i) ∙ or_nothing (p w),
  skip p w ws ws apart.0 (one_of_each p ws apart.1),
)

-- ---- so each has all

all_of : {A : Type 0} (part whole : Option A) → IsPart part whole → (is_some whole ≡ true → is_some part ≡ true) → part ≡ whole
all_of None None p there = refl
all_of None (Some x) p there = absurd (let e : false ≡ true = there refl in cc)
all_of (Some x) whole p there = sym p

wholes : (tx : Tx) (all ws : List WrittenKey) →
    ((k : StateKey) → is_some (value_at tx k) ≡ true → list_any (has_value k) all ≡ true) →
    ((k : StateKey) → is_some (policy_at tx k) ≡ true → list_any (has_policy k) all ≡ true) →
    AllByRecursion (λ w. list_any (has_value w.key) all ≡ is_some w.value) ws →
    AllByRecursion (λ w. list_any (has_policy w.key) all ≡ is_some w.policy) ws →
    AllByRecursion (IsPartOf tx) ws → AllByRecursion (IsWriteOf tx) ws
wholes tx all [] value policy values policies parts = tt
wholes tx all (w ∷ ws) value policy values policies parts = (
  (
    all_of w.value (value_at tx w.key) parts.0.0 (λ there. sym values.0 ∙ value w.key there),
    all_of w.policy (policy_at tx w.key) parts.0.1 (λ there. sym policies.0 ∙ policy w.key there),
  ),
  wholes tx all ws value policy values.1 policies.1 parts.1,
)

sorted_by_keys : (ws : List WrittenKey) → IsSortedByKey (λ w. w.key) key_cmp ws → IsSorted key_cmp (map (λ w. w.key) ws)
sorted_by_keys [] up = λ k d low high. absurd (omega arith)
sorted_by_keys (w ∷ ws) up = λ k d low high.
    let short : k + 1 < length (w ∷ ws) = omega (arith, length-map {A = WrittenKey} (w ∷ ws) (λ x. x.key)) in
    (λ i. is_lt (key_cmp (get_or-map (λ x. x.key) (w ∷ ws) (k + 1) w d short i) (get_or-map (λ x. x.key) (w ∷ ws) k w d (omega arith) i))) ∙ up k w low short

-- what it writes, in any order that is by the keys
pub writes_gathered : (tx : Tx) (sorted : List WrittenKey) → are_lists_in_form tx ≡ true → IsPermutation (single_writes tx) sorted → IsSortedByKey (λ w. w.key) key_cmp sorted → AreWritesOf tx (joined sorted)
writes_gathered tx sorted form moved up =
    let single = single_writes tx in
    let keys : map (λ w. w.key) (joined sorted) ≡ keys_in_order (written_keys tx) =
    joined_keys sorted
    ∙ sorted_is (map (λ w. w.key) single) (map (λ w. w.key) sorted) (IsPermutation-map (λ w. w.key) single sorted moved) (sorted_by_keys sorted up)
    ∙ ap keys_in_order (single_writes_keys tx) in
    let apart = IsDistinct-from_sorted key_cmp (map (λ w. w.key) (joined sorted)) (rw keys (keys_rise (written_keys tx))) in
    let there : (p : WrittenKey → Bool) → Joins p → list_any p single ≡ true → list_any p (joined sorted) ≡ true =
    λ p joins h. any_joined p joins sorted ∙ sym (list_any-IsPermutation p single sorted moved) ∙ h in
    let parts = parts_joined tx sorted (recursion_from_All (IsPartOf tx) sorted (All-permutation (IsPartOf tx) single sorted moved (single_writes_are_parts tx form))) in
    record {
      keys = keys;
      each = All-from_recursion (IsWriteOf tx) (joined sorted) (wholes tx (joined sorted) (joined sorted)
          (λ k h. there (has_value k) (value_joins k) (value_there tx k h))
          (λ k h. there (has_policy k) (policy_joins k) (policy_there tx k h))
          (one_of_each (λ w. is_some w.value) (joined sorted) apart)
          (one_of_each (λ w. is_some w.policy) (joined sorted) apart)
          parts);
    }
