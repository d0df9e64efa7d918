-- The order of keys, and when two are the same.
use Rattle.std.proofs.Common.{◌≡◌, ℕ, true, List, refl, sym, ap, ◌∙◌}
use Rattle.std.specs.Str.{bytes_eq}
use Rattle.std.specs.Ordering.{nat_cmp, is_eq, eq_by_cmp}
use Rattle.std.specs.Cmp.{IsTotalOrder, then_total, on_total, both_tied, unsigned_ties}
use Rattle.std.specs.Cmp.Lexicographic.{nat_list_cmp_total, lists_ties, bytes_decides}
use Rattle.std.specs.FinMap.{IsAntisymmetric}
use Rattle.values.specs.Order.{bytes_cmp}
use Rattle.rules.specs.State.{StateKey, key_cmp, is_same_key}
use Rattle.rules.proofs.Booleans.{both_true}

pub key_cmp_total : IsTotalOrder key_cmp
key_cmp_total = then_total (on_total (λ (k : StateKey). k.0) nat_list_cmp_total) (on_total (λ (k : StateKey). k.1) nat_list_cmp_total)

-- the order of bytes ties where they are the same
pub bytes_ties : (a b : List ℕ) → eq_by_cmp bytes_cmp a b ≡ bytes_eq a b
bytes_ties a b = sym (lists_ties nat_cmp unsigned_ties a b)

-- and the order of keys
pub key_ties : (a b : StateKey) → eq_by_cmp key_cmp a b ≡ is_same_key a b
key_ties a b = sym (both_tied (bytes_eq a.0 b.0) (bytes_eq a.1 b.1) (bytes_cmp a.0 b.0) (bytes_cmp a.1 b.1) (lists_ties nat_cmp unsigned_ties a.0 b.0) (lists_ties nat_cmp unsigned_ties a.1 b.1))

pub same_key_is : (a b : StateKey) → is_same_key a b ≡ true → a ≡ b
same_key_is a b e =
    let h = both_true (bytes_eq a.0 b.0) (bytes_eq a.1 b.1) e in
    λ i. ((bytes_decides a.0 b.0).0 h.0 i, (bytes_decides a.1 b.1).0 h.1 i)

pub same_as_itself : (k : StateKey) → is_same_key k k ≡ true
same_as_itself k = rw ((bytes_decides k.0 k.0).1 refl, (bytes_decides k.1 k.1).1 refl) refl

pub key_cmp-IsAntisymmetric : IsAntisymmetric key_cmp
key_cmp-IsAntisymmetric a b e = same_key_is a b (sym (key_ties a b) ∙ ap is_eq e)
