-- Keys in their order, each once: they strictly rise, they are the same keys, and no other list is so.
use Rattle.std.proofs.Common.{◌≡◌, true, List, sym, ap, ◌∙◌}
use Rattle.std.specs.Ordering.{eq_by_cmp}
use Rattle.std.specs.List.{list_any, dedup}
use Rattle.std.specs.List.Sorted.{IsPermutation, IsSorted, IsStrictlySortedBy}
use Rattle.std.proofs.lemmas.List.Sorted.{list_any-IsPermutation}
use Rattle.std.proofs.lemmas.List.Kept.{IsStrictlySortedBy-dedup}
use Rattle.rules.specs.State.{StateKey, key_cmp, is_same_key, is_among}
use Rattle.rules.proofs.Keys.{key_cmp_total, key_cmp-IsAntisymmetric, key_ties, same_key_is}
use Rattle.candidates.specs.Written.{keys_in_order}
use Rattle.candidates.proofs.InOrder.{any_dedup, only_order}
use Rattle.candidates.proofs.Rising.{set_rises, set_keeps}

among : (k : StateKey) (ks : List StateKey) → list_any (eq_by_cmp key_cmp k) ks ≡ is_among k ks
among k ks = ap (λ p. list_any p ks) (λ i x. key_ties k x i)

-- they strictly rise
pub keys_rise : (ks : List StateKey) → IsStrictlySortedBy key_cmp (keys_in_order ks)
unfolding keys_in_order
keys_rise ks = set_rises key_cmp ks

-- and are the same keys
pub keys_stay : (k : StateKey) (ks : List StateKey) → is_among k (keys_in_order ks) ≡ is_among k ks
unfolding keys_in_order
keys_stay k ks = sym (among k _) ∙ set_keeps key_cmp_total ks k ∙ among k ks

-- no other list is so
pub only_keys : (ks sorted : List StateKey) → IsStrictlySortedBy key_cmp sorted → ((k : StateKey) → is_among k sorted ≡ is_among k ks) → sorted ≡ keys_in_order ks
unfolding keys_in_order
only_keys ks sorted up same = only_order key_cmp_total key_cmp-IsAntisymmetric ks sorted up (λ k. among k ks ∙ sym (same k) ∙ sym (among k sorted))

-- ---- the keys after a sort

alike : (k x y : StateKey) → is_same_key x y ≡ true → is_same_key k x ≡ is_same_key k y
alike k x y e = ap (is_same_key k) (same_key_is x y e)

pub sorted_rise : (ys : List StateKey) → IsSorted key_cmp ys → IsStrictlySortedBy key_cmp (dedup is_same_key ys)
sorted_rise ys up = IsStrictlySortedBy-dedup key_cmp_total (λ x y. sym (key_ties x y)) ys up

pub sorted_stay : (k : StateKey) (xs ys : List StateKey) → IsPermutation xs ys → is_among k (dedup is_same_key ys) ≡ is_among k xs
sorted_stay k xs ys moved = any_dedup (is_same_key k) (alike k) ys ∙ sym (list_any-IsPermutation (is_same_key k) xs ys moved)

pub sorted_is : (xs ys : List StateKey) → IsPermutation xs ys → IsSorted key_cmp ys → dedup is_same_key ys ≡ keys_in_order xs
sorted_is xs ys moved up = only_keys xs (dedup is_same_key ys) (sorted_rise ys up) (λ k. sorted_stay k xs ys moved)
