-- Rows from a key on, page by page, and those that a range lends.
use Rattle.std.proofs.Common.{◌≡◌, ℕ, zero, suc, ◌<◌, Bool, true, false, cond, List, [], ◌∷◌, ◌++◌, ◌&&◌, ◌||◌, length, get_or, drop, refl, sym, ap, ◌∙◌, append-nil, arith}
use Rattle.std.specs.Prelude.{if◌then◌else◌}
use Rattle.std.specs.declared.cmp.Ordering.{Ordering}
use Rattle.std.specs.declared.cmp.Ordering.TheVariants.{Less, Equal, Greater}
use Rattle.std.specs.Ordering.{is_lt, is_le, ordering_then, ordering_reverse}
use Rattle.std.specs.List.{list_all, list_any, filter}
use Rattle.std.specs.Str.{bytes_eq}
use Rattle.std.specs.FinMap.{is_sorted, slice_cmp-IsAntisymmetric, nat_cmp-IsAntisymmetric}
use Rattle.std.specs.Cmp.{tied_itself}
use Rattle.std.specs.FinMap.Entries.{below_all}
use Rattle.std.specs.Cmp.Lexicographic.{bytes_decides, nat_list_cmp_total}
use Rattle.values.specs.Order.{bytes_cmp}
use Rattle.rules.specs.declared.row.Row.{Row}
use Rattle.rules.specs.Ranges as ranges
use Rattle.rules.specs.State.{StateKey, key_cmp}
use Rattle.rules.proofs.Booleans.{both_true, neither}
use Rattle.state_db.specs.Search.{Keyed, IsSorted, is_below, leading}
use Rattle.state_db.specs.Pages.{RowList, joined, AreSized, AreInOrder, is_page_below, home}
use Rattle.state_db.specs.Ranges.{is_before, in_front, from_key}
use Rattle.state_db.proofs.Tests.{is_Less}
use Rattle.state_db.proofs.Order.{sorted_front, sorted_back, none_below}
use Rattle.state_db.proofs.PageOrder.{below_all_of}

-- ---- page by page

pub from_leading : (k : StateKey) (es : RowList) → drop (leading (is_below k) es) es ≡ from_key k es
from_leading k [] = refl
from_leading k (e ∷ es) = by (is_below k e) (from_leading k es)
  where
    by : (b : Bool) → drop (leading (is_below k) es) es ≡ from_key k es → drop (if b then suc (leading (is_below k) es) else 0) (e ∷ es) ≡ (if b then from_key k es else e ∷ es)
    by true r = r
    by false r = refl

from_skip : (k : StateKey) (ls rs : RowList) → list_all (is_below k) ls ≡ true → from_key k (ls ++ rs) ≡ from_key k rs
from_skip k [] rs h = refl
from_skip k (a ∷ ls) rs h =
    let parts = both_true (is_below k a) (list_all (is_below k) ls) h in
    ap (λ (b : Bool). if b then from_key k (ls ++ rs) else a ∷ (ls ++ rs)) parts.0 ∙ from_skip k ls rs parts.1

from_in : (k : StateKey) (ls rs : RowList) → list_all (is_below k) ls ≡ false → from_key k (ls ++ rs) ≡ from_key k ls ++ rs
from_in k [] rs h = absurd cc
from_in k (a ∷ ls) rs h = by (is_below k a) h (from_in k ls rs)
  where
    by : (b : Bool) → (b && list_all (is_below k) ls) ≡ false → (list_all (is_below k) ls ≡ false → from_key k (ls ++ rs) ≡ from_key k ls ++ rs)
        → (if b then from_key k (ls ++ rs) else a ∷ (ls ++ rs)) ≡ (if b then from_key k ls else a ∷ ls) ++ rs
    by true s r = r s
    by false s r = refl

pub from_home : (k : StateKey) (ps : List RowList) (d : RowList) → AreInOrder ps → 0 < length ps → from_key k (joined ps) ≡ from_key k (get_or ps (home k ps) d) ++ joined (drop (suc (home k ps)) ps)
from_home k [] d h some = absurd (omega arith)
from_home k (p ∷ []) d h some = ap (from_key k) (append-nil p) ∙ sym (append-nil (from_key k p))
from_home k (p ∷ q ∷ ps) d h some = by (is_page_below k p) (below_all_of k p (sorted_front p (joined (q ∷ ps)) h.0)) (from_home k (q ∷ ps) d (sorted_back p (joined (q ∷ ps)) h.0, h.1.1) (omega arith))
  where
    by : (b : Bool) → b ≡ list_all (is_below k) p → from_key k (joined (q ∷ ps)) ≡ from_key k (get_or (q ∷ ps) (home k (q ∷ ps)) d) ++ joined (drop (suc (home k (q ∷ ps))) (q ∷ ps))
        → from_key k (p ++ joined (q ∷ ps)) ≡ from_key k (get_or (p ∷ q ∷ ps) (if b then suc (home k (q ∷ ps)) else 0) d) ++ joined (drop (suc (if b then suc (home k (q ∷ ps)) else 0)) (p ∷ q ∷ ps))
    by true s r = from_skip k p (joined (q ∷ ps)) (sym s) ∙ r
    by false s r = from_in k p (joined (q ∷ ps)) (sym s)

pub sized_drop : (n : ℕ) (ps : List RowList) → AreSized ps → AreSized (drop n ps)
sized_drop zero ps h = h
sized_drop (suc n) [] h = h
sized_drop (suc n) (p ∷ ps) h = sized_drop n ps h.2

-- ---- in sorted rows, what a range lends is what the definition filters

-- keys of one namespace are in the order of their second parts
own_order : (n a b : List ℕ) → key_cmp (n, a) (n, b) ≡ bytes_cmp a b
own_order n a b = ap (λ (o : Ordering). ordering_then o (bytes_cmp a b)) (tied_itself nat_list_cmp_total n)

-- where the first part says neither before nor behind
middle : (o p q : Ordering) → is_lt (ordering_then o p) ≡ false → is_lt (ordering_then o q) ≡ true → (o ≡ Equal) × (is_lt q ≡ true)
middle Less p q h g = absurd cc
middle Equal p q h g = (refl, g)
middle Greater p q h g = absurd cc

-- what is behind something that isn't before an end isn't either
end_falls : (a b end : List ℕ) → is_lt (bytes_cmp a b) ≡ true → ranges.is_below a end ≡ false → ranges.is_below b end ≡ false
end_falls a b [] h fails = absurd cc
end_falls a b (c ∷ cs) h fails = by (is_lt (bytes_cmp b (c ∷ cs))) refl
  where
    by : (t : Bool) → is_lt (bytes_cmp b (c ∷ cs)) ≡ t → t ≡ false
    by true s = absurd (let t : is_lt (bytes_cmp a (c ∷ cs)) ≡ true = ap is_lt (nat_list_cmp_total.trans a b (c ∷ cs) (is_Less (bytes_cmp a b) h) (is_Less (bytes_cmp b (c ∷ cs)) s)) in let wrong : false ≡ true = sym fails ∙ t in cc)
    by false s = refl

reverse_before : (o : Ordering) → is_lt o ≡ true → is_le (ordering_reverse o) ≡ false
reverse_before Less h = refl
reverse_before Equal h = absurd cc
reverse_before Greater h = absurd cc

reverse_from : (o : Ordering) → is_lt o ≡ false → is_le (ordering_reverse o) ≡ true
reverse_from Less h = absurd cc
reverse_from Equal h = refl
reverse_from Greater h = refl

module _ (namespace start end : List ℕ) where
  abbrev test : Keyed Row → Bool
  test e = bytes_eq namespace e.0.0 && ranges.is_within start end e.0.1

  abbrev from : StateKey
  from = (namespace, start)

  -- how the parts of two keys stand
  same_name : (a : List ℕ) → bytes_eq namespace a ≡ true → namespace ≡ a
  same_name a = (bytes_decides namespace a).0

  own : (e : Keyed Row) → bytes_eq namespace e.0.0 ≡ true → is_below from e ≡ is_lt (bytes_cmp e.0.1 start)
  own e h = ap (λ (n : List ℕ). is_lt (key_cmp (n, e.0.1) from)) (sym (same_name e.0.0 h)) ∙ ap is_lt (own_order namespace e.0.1 start)

  -- a row before the start isn't in the range
  test_before : (e : Keyed Row) → is_below from e ≡ true → test e ≡ false
  test_before e h = by (bytes_eq namespace e.0.0) refl
    where
      by : (b : Bool) → bytes_eq namespace e.0.0 ≡ b → (b && ranges.is_within start end e.0.1) ≡ false
      by true s = ap (λ (b : Bool). b && ranges.is_below e.0.1 end) (ap is_le (nat_list_cmp_total.antisymm start e.0.1) ∙ reverse_before (bytes_cmp e.0.1 start) (sym (own e s) ∙ h))
      by false s = refl

  -- a row of the range is before its end, and one from the start on that is before the end is of the range
  test_from : (e : Keyed Row) → is_below from e ≡ false → test e ≡ is_before namespace end e
  test_from e h = by (bytes_eq namespace e.0.0) refl
    where
      by : (b : Bool) → bytes_eq namespace e.0.0 ≡ b → (b && ranges.is_within start end e.0.1) ≡ (b && ranges.is_below e.0.1 end)
      by true s = ap (λ (b : Bool). b && ranges.is_below e.0.1 end) (ap is_le (nat_list_cmp_total.antisymm start e.0.1) ∙ reverse_from (bytes_cmp e.0.1 start) (sym (own e s) ∙ h))
      by false s = refl

  -- behind a row that isn't before the end, none is
  end_stays : (e x : Keyed Row) → is_below from e ≡ false → is_lt (key_cmp e.0 x.0) ≡ true → is_before namespace end e ≡ false → is_before namespace end x ≡ false
  end_stays e x h lt fails = by (bytes_eq namespace x.0.0) refl
    where
      by : (b : Bool) → bytes_eq namespace x.0.0 ≡ b → (b && ranges.is_below x.0.1 end) ≡ false
      by true s =
          let lt_own : is_lt (key_cmp e.0 (namespace, x.0.1)) ≡ true = ap (λ (n : List ℕ). is_lt (key_cmp e.0 (n, x.0.1))) (same_name x.0.0 s) ∙ lt in
          let both = middle (bytes_cmp e.0.0 namespace) (bytes_cmp e.0.1 start) (bytes_cmp e.0.1 x.0.1) h lt_own in
          let ours : bytes_eq namespace e.0.0 ≡ true = (bytes_decides namespace e.0.0).1 (sym (slice_cmp-IsAntisymmetric nat_cmp-IsAntisymmetric e.0.0 namespace both.0)) in
          end_falls e.0.1 x.0.1 end both.1 (ap (λ (b : Bool). b && ranges.is_below e.0.1 end) (sym ours) ∙ fails)
      by false s = refl

  nothing_left : (e : Keyed Row) (es : RowList) → is_below from e ≡ false → below_all key_cmp e.0 es ≡ true → is_before namespace end e ≡ false → filter test es ≡ []
  nothing_left e [] h above fails = refl
  nothing_left e (x ∷ es) h above fails =
      let parts = both_true (is_lt (key_cmp e.0 x.0)) (below_all key_cmp e.0 es) above in
      let later : is_below from x ≡ false = (neither (is_below from x) (list_any (is_below from) es) (none_below from e (x ∷ es) above h)).0 in
      ap (λ (b : Bool). cond b (x ∷ filter test es) (filter test es)) (test_from x later ∙ end_stays e x h parts.0 fails) ∙ nothing_left e es h parts.1 fails

  in_front-filter : (es : RowList) → IsSorted es → list_any (is_below from) es ≡ false → in_front namespace end es ≡ filter test es
  in_front-filter [] h none = refl
  in_front-filter (e ∷ es) h none = by (is_before namespace end e) refl (in_front-filter es parts.1 here.1)
    where
      parts : (below_all key_cmp e.0 es ≡ true) × (is_sorted key_cmp es ≡ true)
      parts = both_true (below_all key_cmp e.0 es) (is_sorted key_cmp es) h

      here : (is_below from e ≡ false) × (list_any (is_below from) es ≡ false)
      here = neither (is_below from e) (list_any (is_below from) es) none

      by : (b : Bool) → is_before namespace end e ≡ b → in_front namespace end es ≡ filter test es → (if b then e ∷ in_front namespace end es else []) ≡ cond (test e) (e ∷ filter test es) (filter test es)
      by true s r = ap (λ (l : RowList). e ∷ l) r ∙ ap (λ (b : Bool). cond b (e ∷ filter test es) (filter test es)) (sym (test_from e here.0 ∙ s))
      by false s r = sym (nothing_left e es here.0 parts.0 s) ∙ ap (λ (b : Bool). cond b (e ∷ filter test es) (filter test es)) (sym (test_from e here.0 ∙ s))

  pub range_filter : (es : RowList) → IsSorted es → in_front namespace end (from_key from es) ≡ filter test es
  range_filter [] h = refl
  range_filter (e ∷ es) h = by (is_below from e) refl (range_filter es parts.1)
    where
      parts : (below_all key_cmp e.0 es ≡ true) × (is_sorted key_cmp es ≡ true)
      parts = both_true (below_all key_cmp e.0 es) (is_sorted key_cmp es) h

      by : (b : Bool) → is_below from e ≡ b → in_front namespace end (from_key from es) ≡ filter test es → in_front namespace end (if b then from_key from es else e ∷ es) ≡ filter test (e ∷ es)
      by true s r = r ∙ ap (λ (b : Bool). cond b (e ∷ filter test es) (filter test es)) (sym (test_before e s))
      by false s r = in_front-filter (e ∷ es) h (λ i. s i || none_below from e es parts.0 s i)
