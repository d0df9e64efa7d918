-- How many splits changes may take, and how a change that is made lowers their number.
use Rattle.std.proofs.Common.{◌≡◌, ℕ, zero, suc, ◌+◌, ◌<◌, ◌≤◌, Bool, true, false, cond, not, List, [], ◌∷◌, ◌++◌, ◌&&◌, length, take, drop, get_or, refl, sym, ap, ◌∙◌, length-append, length-take, length-drop, arith}
use Rattle.std.specs.Prelude.{if◌then◌else◌, slice_set}
use Rattle.std.specs.declared.cmp.Ordering.TheVariants.{Less}
use Rattle.std.specs.Ordering.{is_lt}
use Rattle.std.specs.List.{filter, list_all, insert}
use Rattle.std.specs.List as lists
use Rattle.std.proofs.Math.ListN.{length-set}
use Rattle.std.specs.FinMap.Entries.{below_all}
use Rattle.rules.specs.declared.row.Row.{Row}
use Rattle.rules.specs.State.{StateKey, ChangeOf, key_cmp}
use Rattle.rules.proofs.Booleans.{both_true}
use Rattle.rules.proofs.Keys.{key_cmp_total}
use Rattle.state_db.specs.Search.{IsSorted, is_below}
use Rattle.state_db.specs.Pages.{RowList, is_page_below, home}
use Rattle.state_db.specs.Need.{added, added_by, splits, past, up_to, need}
use Rattle.state_db.proofs.Tests.{is_Less}
use Rattle.state_db.proofs.Order.{sorted_front}
use Rattle.state_db.proofs.PageOrder.{below_all_of}

-- ---- numbers

splits-mono : (a b : ℕ) → a ≤ b → splits a ≤ splits b
splits-mono a b h = omega arith

pub splits_few : (n : ℕ) → n ≤ 256 → splits n ≡ 0
splits_few n h = omega arith

splits_parts : (x y z : ℕ) → x + y ≡ z → splits (128 + x) + splits (129 + y) + 1 ≤ splits (257 + z)
splits_parts x y z e = omega arith

splits_full : (n a x : ℕ) → 256 ≤ n → a ≡ 1 → 1 ≤ splits (n + (a + x))
splits_full n a x h e = omega arith

-- ---- the changes that fall to a page

filter_same : (f g : ChangeOf Row → Bool) (k : StateKey) (cs : List (ChangeOf Row)) → below_all key_cmp k cs ≡ true → ((c : ChangeOf Row) → key_cmp k c.0 ≡ Less → f c ≡ g c) → filter f cs ≡ filter g cs
filter_same f g k [] h same = refl
filter_same f g k (c ∷ cs) h same =
    let parts = both_true (is_lt (key_cmp k c.0)) (below_all key_cmp k cs) h in
    (λ i. cond (same c (is_Less (key_cmp k c.0) parts.0) i) (c ∷ filter_same f g k cs parts.1 same i) (filter_same f g k cs parts.1 same i))

below_filter : (f : ChangeOf Row → Bool) (k : StateKey) (cs : List (ChangeOf Row)) → below_all key_cmp k cs ≡ true → below_all key_cmp k (filter f cs) ≡ true
below_filter f k [] h = refl
below_filter f k (c ∷ cs) h = by (f c) (both_true (is_lt (key_cmp k c.0)) (below_all key_cmp k cs) h) (below_filter f k cs)
  where
    by : (b : Bool) → (is_lt (key_cmp k c.0) ≡ true) × (below_all key_cmp k cs ≡ true) → (below_all key_cmp k cs ≡ true → below_all key_cmp k (filter f cs) ≡ true) → below_all key_cmp k (cond b (c ∷ filter f cs) (filter f cs)) ≡ true
    by true parts r = (λ i. parts.0 i && r parts.1 i)
    by false parts r = r parts.1

filter_all : (cs : List (ChangeOf Row)) → filter (λ c. true) cs ≡ cs
filter_all [] = refl
filter_all (c ∷ cs) = ap (λ (l : List (ChangeOf Row)). c ∷ l) (filter_all cs)

filter_none : (cs : List (ChangeOf Row)) → filter (λ c. false) cs ≡ []
filter_none [] = refl
filter_none (c ∷ cs) = filter_none cs

-- a page whose last row is before a key is before each key behind it
pub page_below_more : (k x : StateKey) (p : RowList) → key_cmp k x ≡ Less → is_page_below k p ≡ true → is_page_below x p ≡ true
page_below_more k x [] lt h = refl
page_below_more k x (e ∷ []) lt h = ap is_lt (key_cmp_total.trans e.0 k x (is_Less (key_cmp e.0 k) h) lt)
page_below_more k x (e ∷ f ∷ p) lt h = page_below_more k x (f ∷ p) lt h

pub all_past : (p : RowList) (k : StateKey) (cs : List (ChangeOf Row)) → below_all key_cmp k cs ≡ true → is_page_below k p ≡ true → past p cs ≡ cs
all_past p k cs h below = filter_same (λ c. is_page_below c.0 p) (λ c. true) k cs h (λ c lt. page_below_more k c.0 p lt below) ∙ filter_all cs

pub none_up_to : (p : RowList) (k : StateKey) (cs : List (ChangeOf Row)) → below_all key_cmp k cs ≡ true → is_page_below k p ≡ true → up_to p cs ≡ []
none_up_to p k cs h below = filter_same (λ c. not (is_page_below c.0 p)) (λ c. false) k cs h (λ c lt. ap not (page_below_more k c.0 p lt below)) ∙ filter_none cs

pub need_cons : (p : RowList) (ps : List RowList) (cs : List (ChangeOf Row)) → 0 < length ps → need (p ∷ ps) cs ≡ splits (length p + added_by (up_to p cs)) + need ps (past p cs)
need_cons p [] cs h = absurd (omega arith)
need_cons p (q ∷ ps) cs h = refl

-- ---- a page that changes

-- a page stands to each later key as before
abbrev pub AreAlike : StateKey → RowList → RowList → Type 0
AreAlike k p q = (x : StateKey) → key_cmp k x ≡ Less → is_page_below x q ≡ is_page_below x p

pub need_set : (ps : List RowList) (c : ChangeOf Row) (cs : List (ChangeOf Row)) (q d : RowList) → 0 < length ps → below_all key_cmp c.0 cs ≡ true
    → AreAlike c.0 (get_or ps (home c.0 ps) d) q → length q ≤ length (get_or ps (home c.0 ps) d) + added c
    → need (slice_set ps (home c.0 ps) q) cs ≤ need ps (c ∷ cs)
need_set [] c cs q d some h alike few = absurd (omega arith)
need_set (p ∷ []) c cs q d some h alike few = splits-mono (length q + added_by cs) (length p + (added c + added_by cs)) (omega arith)
need_set (p ∷ r ∷ ps) c cs q d some h alike few = by (is_page_below c.0 p) alike few (need_set (r ∷ ps) c (past p cs) q d (omega arith) (below_filter (λ c. is_page_below c.0 p) c.0 cs h))
  where
    n : Bool → ℕ
    n b = if b then suc (home c.0 (r ∷ ps)) else 0

    by : (b : Bool) → AreAlike c.0 (get_or (p ∷ r ∷ ps) (if b then suc (home c.0 (r ∷ ps)) else 0) d) q → length q ≤ length (get_or (p ∷ r ∷ ps) (if b then suc (home c.0 (r ∷ ps)) else 0) d) + added c
        → (AreAlike c.0 (get_or (r ∷ ps) (home c.0 (r ∷ ps)) d) q → length q ≤ length (get_or (r ∷ ps) (home c.0 (r ∷ ps)) d) + added c → need (slice_set (r ∷ ps) (home c.0 (r ∷ ps)) q) (past p cs) ≤ need (r ∷ ps) (c ∷ past p cs))
        → need (slice_set (p ∷ r ∷ ps) (if b then suc (home c.0 (r ∷ ps)) else 0) q) cs
        ≤ splits (length p + added_by (cond (not b) (c ∷ up_to p cs) (up_to p cs))) + need (r ∷ ps) (cond b (c ∷ past p cs) (past p cs))
    by true alike few rest =
        let more = rest alike few in
        let left : 0 < length (slice_set (r ∷ ps) (home c.0 (r ∷ ps)) q) = omega (arith, length-set (r ∷ ps) (home c.0 (r ∷ ps)) q) in
        rw (need_cons p (slice_set (r ∷ ps) (home c.0 (r ∷ ps)) q) cs left) (omega arith)
    by false alike few rest =
        let ours : up_to q cs ≡ up_to p cs = filter_same (λ c. not (is_page_below c.0 q)) (λ c. not (is_page_below c.0 p)) c.0 cs h (λ x lt. ap not (alike x.0 lt)) in
        let others : past q cs ≡ past p cs = filter_same (λ c. is_page_below c.0 q) (λ c. is_page_below c.0 p) c.0 cs h (λ x lt. alike x.0 lt) in
        let more : splits (length q + added_by (up_to p cs)) ≤ splits (length p + (added c + added_by (up_to p cs))) = splits-mono (length q + added_by (up_to p cs)) (length p + (added c + added_by (up_to p cs))) (omega arith) in
        rw (ours, others) (omega arith)

-- ---- a page that is split

-- what is added in two parts
parts_added : (f : ChangeOf Row → Bool) (cs : List (ChangeOf Row)) → added_by (filter (λ c. not (f c)) cs) + added_by (filter f cs) ≡ added_by cs
parts_added f [] = refl
parts_added f (c ∷ cs) = by (f c) (parts_added f cs)
  where
    by : (b : Bool) → added_by (filter (λ c. not (f c)) cs) + added_by (filter f cs) ≡ added_by cs
        → added_by (cond (not b) (c ∷ filter (λ c. not (f c)) cs) (filter (λ c. not (f c)) cs)) + added_by (cond b (c ∷ filter f cs) (filter f cs)) ≡ added c + added_by cs
    by true r = omega arith
    by false r = omega arith

-- where one test passes no more than another
parts_in : (f g : ChangeOf Row → Bool) (cs : List (ChangeOf Row)) → ((c : ChangeOf Row) → g c ≡ true → f c ≡ true)
    → (added_by (filter (λ c. not (f c)) cs) + added_by (filter (λ c. not (g c)) (filter f cs)) ≡ added_by (filter (λ c. not (g c)) cs)) × (filter g (filter f cs) ≡ filter g cs)
parts_in f g [] h = (refl, refl)
parts_in f g (c ∷ cs) h = by (f c) (g c) refl (h c) (parts_in f g cs h)
  where
    by : (a b : Bool) → g c ≡ b → (b ≡ true → a ≡ true)
        → (added_by (filter (λ c. not (f c)) cs) + added_by (filter (λ c. not (g c)) (filter f cs)) ≡ added_by (filter (λ c. not (g c)) cs)) × (filter g (filter f cs) ≡ filter g cs)
        → (added_by (cond (not a) (c ∷ filter (λ c. not (f c)) cs) (filter (λ c. not (f c)) cs)) + added_by (filter (λ c. not (g c)) (cond a (c ∷ filter f cs) (filter f cs))) ≡ added_by (cond (not b) (c ∷ filter (λ c. not (g c)) cs) (filter (λ c. not (g c)) cs)))
        × (filter g (cond a (c ∷ filter f cs) (filter f cs)) ≡ cond b (c ∷ filter g cs) (filter g cs))
    by true true e t r = (rw e r.0, rw e (ap (λ (l : List (ChangeOf Row)). c ∷ l) r.1))
    by true false e t r = (rw e (omega (arith, r.0)), rw e r.1)
    by false true e t r = let wrong : false ≡ true = t refl in absurd cc
    by false false e t r = (omega (arith, r.0), r.1)

-- the last row of two parts is that of the second
last_of_both : (x : StateKey) (l u : RowList) → 0 < length u → is_page_below x (l ++ u) ≡ is_page_below x u
last_of_both x [] u some = refl
last_of_both x (e ∷ []) [] some = absurd (omega arith)
last_of_both x (e ∷ []) (f ∷ u) some = refl
last_of_both x (e ∷ g ∷ l) u some = last_of_both x (g ∷ l) u some

front_all : {Y : Type 0} (test : Y → Bool) (xs ys : List Y) → list_all test (xs ++ ys) ≡ true → list_all test xs ≡ true
front_all test [] ys h = refl
front_all test (x ∷ xs) ys h =
    let parts = both_true (test x) (list_all test (xs ++ ys)) h in
    (λ i. parts.0 i && front_all test xs ys parts.1 i)

-- where the second part is before a key, the first is
upper_decides : (x : StateKey) (l u : RowList) → IsSorted (l ++ u) → 0 < length u → is_page_below x u ≡ true → is_page_below x l ≡ true
upper_decides x l u h some below =
    below_all_of x l (sorted_front l u h)
    ∙ front_all (is_below x) l u (sym (below_all_of x (l ++ u) h) ∙ last_of_both x l u some ∙ below)

some_middle : (xs ys : List RowList) (u : RowList) → 0 < length (xs ++ u ∷ ys)
some_middle [] ys u = omega arith
some_middle (x ∷ xs) ys u = omega arith

module _ (l u : RowList) (h : IsSorted (l ++ u)) (lower : length l ≡ 128) (upper : length u ≡ 129) where
  whole : length (l ++ u) ≡ 257
  whole = omega (arith, length-append l u)

  need_parts : (rest : List RowList) (cs : List (ChangeOf Row)) → need (l ∷ u ∷ rest) cs + 1 ≤ need ((l ++ u) ∷ rest) cs
  need_parts [] cs =
      let parts = splits_parts (added_by (up_to l cs)) (added_by (past l cs)) (added_by cs) (parts_added (λ c. is_page_below c.0 l) cs) in
      rw (lower, upper, whole) parts
  need_parts (r ∷ rest) cs =
      let f : ChangeOf Row → Bool = λ c. is_page_below c.0 l in
      let g : ChangeOf Row → Bool = λ c. is_page_below c.0 u in
      let some : 0 < length u = omega arith in
      let both = parts_in f g cs (λ c below. upper_decides c.0 l u h some below) in
      let others : past (l ++ u) cs ≡ past u cs = λ i. filter (λ c. last_of_both c.0 l u some i) cs in
      let ours : up_to (l ++ u) cs ≡ up_to u cs = λ i. filter (λ c. not (last_of_both c.0 l u some i)) cs in
      let parts = splits_parts (added_by (up_to l cs)) (added_by (up_to u (past l cs))) (added_by (up_to u cs)) both.0 in
      rw (lower, upper, whole, ours, others, both.1) (omega (arith, parts))

  pub need_split : (ps : List RowList) (n : ℕ) (cs : List (ChangeOf Row)) → n < length ps → need (insert (slice_set ps n l) (suc n) u) cs + 1 ≤ need (slice_set ps n (l ++ u)) cs
  need_split [] n cs lt = absurd (omega arith)
  need_split (p ∷ ps) zero cs lt = need_parts ps cs
  need_split (p ∷ ps) (suc n) cs lt =
      let more = need_split ps n (past p cs) (omega arith) in
      let left : 0 < length (slice_set ps n (l ++ u)) = omega (arith, length-set ps n (l ++ u)) in
      rw (need_cons p (insert (slice_set ps n l) (suc n) u) cs (some_middle (take (suc n) (slice_set ps n l)) (drop (suc n) (slice_set ps n l)) u), need_cons p (slice_set ps n (l ++ u)) cs left) (omega (arith, more))

-- ---- a page that goes

pub need_drop : (ps : List RowList) (n : ℕ) (cs : List (ChangeOf Row)) → suc n < length ps → need (lists.remove (slice_set ps n []) n) cs ≤ need (slice_set ps n []) cs
need_drop [] n cs lt = absurd (omega arith)
need_drop (p ∷ []) n cs lt = absurd (omega arith)
need_drop (p ∷ r ∷ ps) zero cs lt = rw filter_all (omega arith)
need_drop (p ∷ r ∷ ps) (suc n) cs lt =
    let more = need_drop (r ∷ ps) n (past p cs) (omega arith) in
    let set : length (slice_set (r ∷ ps) n []) ≡ length (r ∷ ps) = length-set (r ∷ ps) n [] in
    let left : 0 < length (slice_set (r ∷ ps) n []) = omega arith in
    let less : 0 < length (lists.remove (slice_set (r ∷ ps) n []) n) = simp (length-append, length-take, length-drop) (omega arith) in
    rw (need_cons p (lists.remove (slice_set (r ∷ ps) n []) n) cs less, need_cons p (slice_set (r ∷ ps) n []) cs left) (omega (arith, more))

-- ---- a change to a full page takes a split

pub need_full : (ps : List RowList) (c : ChangeOf Row) (cs : List (ChangeOf Row)) (d : RowList) → 0 < length ps → added c ≡ 1 → 256 ≤ length (get_or ps (home c.0 ps) d) → 1 ≤ need ps (c ∷ cs)
need_full [] c cs d some one full = absurd (omega arith)
need_full (p ∷ []) c cs d some one full = splits_full (length p) (added c) (added_by cs) full one
need_full (p ∷ q ∷ ps) c cs d some one full = by (is_page_below c.0 p) full (need_full (q ∷ ps) c (past p cs) d (omega arith) one)
  where
    by : (b : Bool) → 256 ≤ length (get_or (p ∷ q ∷ ps) (if b then suc (home c.0 (q ∷ ps)) else 0) d) → (256 ≤ length (get_or (q ∷ ps) (home c.0 (q ∷ ps)) d) → 1 ≤ need (q ∷ ps) (c ∷ past p cs))
        → 1 ≤ splits (length p + added_by (cond (not b) (c ∷ up_to p cs) (up_to p cs))) + need (q ∷ ps) (cond b (c ∷ past p cs) (past p cs))
    by true full rest = let more = rest full in omega arith
    by false full rest = let more = splits_full (length p) (added c) (added_by (up_to p cs)) full one in omega arith
