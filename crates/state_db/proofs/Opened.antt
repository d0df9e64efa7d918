-- Pages between two changes: what one change makes of them.
use Rattle.std.proofs.Common.{◌≡◌, ℕ, zero, suc, ◌+◌, ◌-◌, ◌<◌, ◌≤◌, Bool, true, false, cond, not, List, [], ◌∷◌, ◌++◌, ◌&&◌, length, take, drop, get_or, Some, None, refl, sym, ap, subst, ◌∙◌, append_assoc, append-nil, add-one, length-append, length-take, length-drop, arith}
use Rattle.std.specs.Prelude.{◌==◌, if◌then◌else◌, slice_set}
use Rattle.std.specs.Cmp.{unsigned_Decides}
use Rattle.std.specs.declared.cmp.Ordering.{Ordering}
use Rattle.std.specs.declared.cmp.Ordering.TheVariants.{Less, Equal, Greater}
use Rattle.std.specs.Ordering.{is_lt, is_eq, eq_by_cmp}
use Rattle.std.specs.List.{list_all, insert}
use Rattle.std.specs.List as lists
use Rattle.std.proofs.Math.ListN.{length-set}
use Rattle.std.specs.FinMap.{is_sorted}
use Rattle.std.specs.FinMap.Entries.{put, by_order, below_all, is_sorted-put, is_sorted-where_key}
use Rattle.rules.specs.declared.row.Row.{Row}
use Rattle.rules.specs.State.{StateKey, ChangeOf, key_cmp}
use Rattle.rules.proofs.Keys.{key_cmp_total}
use Rattle.state_db.specs.Search.{IsSorted, is_below}
use Rattle.state_db.specs.Pages.{RowList, joined, AreFilled, AreSized, ArePages, is_page_below, home}
use Rattle.state_db.specs.Edits.{without}
use Rattle.state_db.specs.Need.{need, AreBounded, AreOpen, AreEmpty}
use Rattle.state_db.specs.Steps.{IsPut, IsRemoved}
use Rattle.state_db.proofs.Tests.{told, shown}
use Rattle.state_db.proofs.Order.{sorted_front, sorted_back}
use Rattle.state_db.proofs.Puts.{put_skip, put_in}
use Rattle.state_db.proofs.Removes.{without_skip, without_in, without-le}
use Rattle.state_db.proofs.PageOrder.{below_all_of, home-lt, page_sorted, others, others-take}
use Rattle.state_db.proofs.Needs.{AreAlike, need_set, need_split, need_drop}

-- ---- the rows of all pages

pub joined_put : (k : StateKey) (v : Row) (ps : List RowList) (d : RowList) → IsSorted (joined ps) → 0 < length ps
    → joined (slice_set ps (home k ps) (put key_cmp k v (get_or ps (home k ps) d))) ≡ put key_cmp k v (joined ps)
joined_put k v [] d h some = absurd (omega arith)
joined_put k v (p ∷ []) d h some = append-nil (put key_cmp k v p) ∙ ap (put key_cmp k v) (sym (append-nil p))
joined_put k v (p ∷ r ∷ ps) d h some = by (is_page_below k p) (below_all_of k p (sorted_front p (joined (r ∷ ps)) h)) (joined_put k v (r ∷ ps) d (sorted_back p (joined (r ∷ ps)) h) (omega arith))
  where
    by : (b : Bool) → b ≡ list_all (is_below k) p → joined (slice_set (r ∷ ps) (home k (r ∷ ps)) (put key_cmp k v (get_or (r ∷ ps) (home k (r ∷ ps)) d))) ≡ put key_cmp k v (joined (r ∷ ps))
        → joined (slice_set (p ∷ r ∷ ps) (if b then suc (home k (r ∷ ps)) else 0) (put key_cmp k v (get_or (p ∷ r ∷ ps) (if b then suc (home k (r ∷ ps)) else 0) d))) ≡ put key_cmp k v (p ++ joined (r ∷ ps))
    by true s rest = ap (λ (l : RowList). p ++ l) rest ∙ sym (put_skip k v p (joined (r ∷ ps)) (sym s))
    by false s rest = sym (put_in k v p (joined (r ∷ ps)) (sym s))

pub joined_without : (k : StateKey) (ps : List RowList) (d : RowList) → IsSorted (joined ps) → 0 < length ps
    → joined (slice_set ps (home k ps) (without k (get_or ps (home k ps) d))) ≡ without k (joined ps)
joined_without k [] d h some = absurd (omega arith)
joined_without k (p ∷ []) d h some = append-nil (without k p) ∙ ap (without k) (sym (append-nil p))
joined_without k (p ∷ r ∷ ps) d h some = by (is_page_below k p) (below_all_of k p (sorted_front p (joined (r ∷ ps)) h)) (joined_without k (r ∷ ps) d (sorted_back p (joined (r ∷ ps)) h) (omega arith))
  where
    by : (b : Bool) → b ≡ list_all (is_below k) p → joined (slice_set (r ∷ ps) (home k (r ∷ ps)) (without k (get_or (r ∷ ps) (home k (r ∷ ps)) d))) ≡ without k (joined (r ∷ ps))
        → joined (slice_set (p ∷ r ∷ ps) (if b then suc (home k (r ∷ ps)) else 0) (without k (get_or (p ∷ r ∷ ps) (if b then suc (home k (r ∷ ps)) else 0) d))) ≡ without k (p ++ joined (r ∷ ps))
    by true s rest = ap (λ (l : RowList). p ++ l) rest ∙ sym (without_skip k p (joined (r ∷ ps)) (sym s))
    by false s rest = sym (without_in k p (joined (r ∷ ps)) h (sym s))

joined_split : (ps : List RowList) (n : ℕ) (l u : RowList) → n < length ps → joined (insert (slice_set ps n l) (suc n) u) ≡ joined (slice_set ps n (l ++ u))
joined_split [] n l u lt = absurd (omega arith)
joined_split (p ∷ ps) zero l u lt = sym (append_assoc l u (joined ps))
joined_split (p ∷ ps) (suc n) l u lt = ap (λ (xs : RowList). p ++ xs) (joined_split ps n l u (omega arith))

joined_drop : (ps : List RowList) (n : ℕ) → joined (lists.remove (slice_set ps n []) n) ≡ joined (slice_set ps n [])
joined_drop [] zero = refl
joined_drop [] (suc n) = refl
joined_drop (p ∷ ps) zero = refl
joined_drop (p ∷ ps) (suc n) = ap (λ (xs : RowList). p ++ xs) (joined_drop ps n)

-- ---- which pages have rows, and how many

filled_cons : (p : RowList) (ps : List RowList) → (0 < length ps → 0 < length p) → AreFilled ps → AreFilled (p ∷ ps)
filled_cons p [] some h = tt
filled_cons p (q ∷ ps) some h = (some (omega arith), h)

filled_tail : (p : RowList) (ps : List RowList) → AreFilled (p ∷ ps) → AreFilled ps
filled_tail p [] h = tt
filled_tail p (q ∷ ps) h = h.1

filled_head : (p : RowList) (ps : List RowList) → AreFilled (p ∷ ps) → 0 < length ps → 0 < length p
filled_head p [] h some = absurd (omega arith)
filled_head p (q ∷ ps) h some = h.0

filled_set : (ps : List RowList) (n : ℕ) (q : RowList) → AreFilled ps → (suc n < length ps → 0 < length q) → AreFilled (slice_set ps n q)
filled_set [] n q h some = tt
filled_set (p ∷ ps) zero q h some = filled_cons q ps (λ lt. some (omega arith)) (filled_tail p ps h)
filled_set (p ∷ ps) (suc n) q h some =
    filled_cons p (slice_set ps n q) (λ lt. filled_head p ps h (omega (arith, length-set ps n q))) (filled_set ps n q (filled_tail p ps h) (λ lt. some (omega arith)))

filled_split : (ps : List RowList) (n : ℕ) (l u : RowList) → AreFilled ps → n < length ps → 0 < length l → 0 < length u → AreFilled (insert (slice_set ps n l) (suc n) u)
filled_split [] n l u h lt a b = absurd (omega arith)
filled_split (p ∷ ps) zero l u h lt a b = (a, filled_cons u ps (λ some. b) (filled_tail p ps h))
filled_split (p ∷ ps) (suc n) l u h lt a b =
    filled_cons p (insert (slice_set ps n l) (suc n) u) (λ some. filled_head p ps h (omega arith)) (filled_split ps n l u (filled_tail p ps h) (omega arith) a b)

filled_drop : (ps : List RowList) (n : ℕ) → AreFilled ps → suc n < length ps → AreFilled (lists.remove (slice_set ps n []) n)
filled_drop [] n h lt = absurd (omega arith)
filled_drop (p ∷ ps) zero h lt = filled_tail p ps h
filled_drop (p ∷ ps) (suc n) h lt =
    filled_cons p (lists.remove (slice_set ps n []) n) (λ some. filled_head p ps h (omega arith)) (filled_drop ps n (filled_tail p ps h) (omega arith))

bounded_set : (ps : List RowList) (n : ℕ) (q : RowList) → AreBounded ps → length q ≤ 256 → AreBounded (slice_set ps n q)
bounded_set [] n q h a = tt
bounded_set (p ∷ ps) zero q h a = (a, h.1)
bounded_set (p ∷ ps) (suc n) q h a = (h.0, bounded_set ps n q h.1 a)

bounded_split : (ps : List RowList) (n : ℕ) (l u : RowList) → AreBounded ps → n < length ps → length l ≤ 256 → length u ≤ 256 → AreBounded (insert (slice_set ps n l) (suc n) u)
bounded_split [] n l u h lt a b = absurd (omega arith)
bounded_split (p ∷ ps) zero l u h lt a b = (a, (b, h.1))
bounded_split (p ∷ ps) (suc n) l u h lt a b = (h.0, bounded_split ps n l u h.1 (omega arith) a b)

bounded_drop : (ps : List RowList) (n : ℕ) → AreBounded ps → AreBounded (lists.remove (slice_set ps n []) n)
bounded_drop [] zero h = tt
bounded_drop [] (suc n) h = tt
bounded_drop (p ∷ ps) zero h = h.1
bounded_drop (p ∷ ps) (suc n) h = (h.0, bounded_drop ps n h.1)

pub bound_at : (ps : List RowList) (n : ℕ) (d : RowList) → AreBounded ps → n < length ps → length (get_or ps n d) ≤ 256
bound_at [] n d h lt = absurd (omega arith)
bound_at (p ∷ ps) zero d h lt = h.0
bound_at (p ∷ ps) (suc n) d h lt = bound_at ps n d h.1 (omega arith)

-- ---- a page that changes stands to later keys as before

put_all : (k x : StateKey) (v : Row) (es : RowList) → key_cmp k x ≡ Less → list_all (is_below x) (put key_cmp k v es) ≡ list_all (is_below x) es
put_all k x v [] lt = ap (λ (o : Ordering). is_lt o && true) lt
put_all k x v (e ∷ es) lt = by (key_cmp k e.0) (put_all k x v es lt)
  where
    by : (o : Ordering) → list_all (is_below x) (put key_cmp k v es) ≡ list_all (is_below x) es
        → list_all (is_below x) (by_order o ((k, v) ∷ e ∷ es) ((e.0, v) ∷ es) (e ∷ put key_cmp k v es)) ≡ (is_below x e && list_all (is_below x) es)
    by Less r = ap (λ (o : Ordering). is_lt o && (is_below x e && list_all (is_below x) es)) lt
    by Equal r = refl
    by Greater r = ap (λ (b : Bool). is_below x e && b) r

without_all : (k x : StateKey) (es : RowList) → key_cmp k x ≡ Less → list_all (is_below x) (without k es) ≡ list_all (is_below x) es
without_all k x [] lt = refl
without_all k x (e ∷ es) lt = by (key_cmp k e.0) refl (without_all k x es lt)
  where
    by : (o : Ordering) → key_cmp k e.0 ≡ o → list_all (is_below x) (without k es) ≡ list_all (is_below x) es
        → list_all (is_below x) (cond (not (is_eq o)) (e ∷ without k es) (without k es)) ≡ (is_below x e && list_all (is_below x) es)
    by Less s r = ap (λ (b : Bool). is_below x e && b) r
    by Equal s r = r ∙ ap (λ (b : Bool). b && list_all (is_below x) es) (sym (ap is_lt (sym (key_cmp_total.congr k e.0 x s) ∙ lt)))
    by Greater s r = ap (λ (b : Bool). is_below x e && b) r

pub put_sorted : (k : StateKey) (v : Row) (es : RowList) → IsSorted es → IsSorted (put key_cmp k v es)
put_sorted k v es h = shown _ (is_sorted-put key_cmp key_cmp_total k v es (told _ h))

without_sorted : (k : StateKey) (es : RowList) → IsSorted es → IsSorted (without k es)
without_sorted k es h = shown _ (is_sorted-where_key key_cmp (λ x. not (eq_by_cmp key_cmp k x)) es (told _ h))

put_alike : (k : StateKey) (v : Row) (p : RowList) → IsSorted p → AreAlike k p (put key_cmp k v p)
put_alike k v p h = λ x lt. below_all_of x (put key_cmp k v p) (put_sorted k v p h) ∙ put_all k x v p lt ∙ sym (below_all_of x p h)

without_alike : (k : StateKey) (p : RowList) → IsSorted p → AreAlike k p (without k p)
without_alike k p h = λ x lt. below_all_of x (without k p) (without_sorted k p h) ∙ without_all k x p lt ∙ sym (below_all_of x p h)

pub put_more : (k : StateKey) (v : Row) (es : RowList) → (length (put key_cmp k v es) ≤ length es + 1) × (0 < length (put key_cmp k v es))
put_more k v [] = (omega arith, omega arith)
put_more k v (e ∷ es) = by (key_cmp k e.0) (put_more k v es)
  where
    by : (o : Ordering) → (length (put key_cmp k v es) ≤ length es + 1) × (0 < length (put key_cmp k v es))
        → (length (by_order o ((k, v) ∷ e ∷ es) ((e.0, v) ∷ es) (e ∷ put key_cmp k v es)) ≤ suc (length es) + 1) × (0 < length (by_order o ((k, v) ∷ e ∷ es) ((e.0, v) ∷ es) (e ∷ put key_cmp k v es)))
    by Less r = (omega arith, omega arith)
    by Equal r = (omega arith, omega arith)
    by Greater r = (omega (arith, r.0), omega arith)

-- ---- a row that is put

-- where its page has room for it
pub put_kept : (k : StateKey) (v : Row) (ps : List RowList) (n : ℕ) (p q : RowList) (m : ℕ) → AreOpen ps → n ≡ home k ps → p ≡ get_or ps n p → q ≡ put key_cmp k v p → length q ≤ 256
    → IsPut k v ps (slice_set ps n q) m m
put_kept k v ps n p q m h at is made few = record {
  open_ = record {
    some = omega (arith, length-set ps n q, h.some);
    sorted = ap (is_sorted key_cmp) rows ∙ put_sorted k v (joined ps) h.sorted;
    filled = filled_set ps n q h.filled (λ lt. subst (λ (l : RowList). 0 < length l) (sym made) (put_more k v p).1);
    bounded = bounded_set ps n q h.bounded few;
  };
  rows = rows;
  need_ = λ cs above. let more = needs cs above in omega (arith, more);
}
  where
    there : p ≡ get_or ps (home k ps) p
    there = is ∙ ap (λ (i : ℕ). get_or ps i p) at

    rows : joined (slice_set ps n q) ≡ put key_cmp k v (joined ps)
    rows = (λ i. joined (slice_set ps (at i) ((made ∙ ap (put key_cmp k v) there) i))) ∙ joined_put k v ps p h.sorted h.some

    order : IsSorted (get_or ps (home k ps) p)
    order = page_sorted ps (home k ps) p h.sorted (home-lt k ps h.some)

    q_is : q ≡ put key_cmp k v (get_or ps (home k ps) p)
    q_is = made ∙ ap (put key_cmp k v) there

    needs : (cs : List (ChangeOf Row)) → below_all key_cmp k cs ≡ true → need (slice_set ps n q) cs ≤ need ps ((k, Some v) ∷ cs)
    needs cs above =
        subst (λ (i : ℕ). need (slice_set ps i q) cs ≤ need ps ((k, Some v) ∷ cs)) (sym at)
        (need_set ps (k, Some v) cs q p h.some above
        (subst (λ (l : RowList). AreAlike k (get_or ps (home k ps) p) l) (sym q_is) (put_alike k v (get_or ps (home k ps) p) order))
        (subst (λ (l : RowList). length l ≤ length (get_or ps (home k ps) p) + 1) (sym q_is) (put_more k v (get_or ps (home k ps) p)).0))

-- where its page is split
pub put_parted : (k : StateKey) (v : Row) (ps : List RowList) (n : ℕ) (p l u : RowList) (m : ℕ) → AreOpen ps → n ≡ home k ps → p ≡ get_or ps n p → l ++ u ≡ put key_cmp k v p → length l ≡ 128 → length u ≡ 129
    → IsPut k v ps (insert (slice_set ps n l) (n + 1) u) (m + 1) m
put_parted k v ps n p l u m h at is made lower upper = record {
  open_ = record {
    some = subst (λ (i : ℕ). 0 < length (insert (slice_set ps n l) i u)) (sym (add-one n)) (some_there (take (suc n) (slice_set ps n l)) (drop (suc n) (slice_set ps n l)));
    sorted = ap (is_sorted key_cmp) rows ∙ put_sorted k v (joined ps) h.sorted;
    filled = subst (λ (i : ℕ). AreFilled (insert (slice_set ps n l) i u)) (sym (add-one n)) (filled_split ps n l u h.filled lt (omega arith) (omega arith));
    bounded = subst (λ (i : ℕ). AreBounded (insert (slice_set ps n l) i u)) (sym (add-one n)) (bounded_split ps n l u h.bounded lt (omega arith) (omega arith));
  };
  rows = rows;
  need_ = λ cs above. let more = needs cs above in omega (arith, more);
}
  where
    some_there : (xs ys : List RowList) → 0 < length (xs ++ u ∷ ys)
    some_there [] ys = omega arith
    some_there (x ∷ xs) ys = omega arith

    lt : n < length ps
    lt = omega (arith, home-lt k ps h.some)

    there : p ≡ get_or ps (home k ps) p
    there = is ∙ ap (λ (i : ℕ). get_or ps i p) at

    q_is : l ++ u ≡ put key_cmp k v (get_or ps (home k ps) p)
    q_is = made ∙ ap (put key_cmp k v) there

    order : IsSorted (get_or ps (home k ps) p)
    order = page_sorted ps (home k ps) p h.sorted (home-lt k ps h.some)

    sorted_both : IsSorted (l ++ u)
    sorted_both = ap (is_sorted key_cmp) q_is ∙ put_sorted k v (get_or ps (home k ps) p) order

    rows : joined (insert (slice_set ps n l) (n + 1) u) ≡ put key_cmp k v (joined ps)
    rows =
        ap (λ (i : ℕ). joined (insert (slice_set ps n l) i u)) (add-one n)
        ∙ joined_split ps n l u lt
        ∙ (λ i. joined (slice_set ps (at i) (q_is i))) ∙ joined_put k v ps p h.sorted h.some

    needs : (cs : List (ChangeOf Row)) → below_all key_cmp k cs ≡ true → need (insert (slice_set ps n l) (n + 1) u) cs + 1 ≤ need ps ((k, Some v) ∷ cs)
    needs cs above =
        let one = need_split l u sorted_both lower upper ps n cs lt in
        let two = need_set ps (k, Some v) cs (l ++ u) p h.some above
        (subst (λ (x : RowList). AreAlike k (get_or ps (home k ps) p) x) (sym q_is) (put_alike k v (get_or ps (home k ps) p) order))
        (subst (λ (x : RowList). length x ≤ length (get_or ps (home k ps) p) + 1) (sym q_is) (put_more k v (get_or ps (home k ps) p)).0) in
        let three : need (slice_set ps n (l ++ u)) cs ≤ need ps ((k, Some v) ∷ cs) = subst (λ (i : ℕ). need (slice_set ps i (l ++ u)) cs ≤ need ps ((k, Some v) ∷ cs)) (sym at) two in
        subst (λ (i : ℕ). need (insert (slice_set ps n l) i u) cs + 1 ≤ need ps ((k, Some v) ∷ cs)) (sym (add-one n)) (omega (arith, one, three))

-- ---- a row that is removed

pub remove_kept : (k : StateKey) (ps : List RowList) (n : ℕ) (p q : RowList) → AreOpen ps → n ≡ home k ps → p ≡ get_or ps n p → q ≡ without k p → (suc n < length ps → 0 < length q)
    → IsRemoved k ps (slice_set ps n q)
remove_kept k ps n p q h at is made some = record {
  open_ = record {
    some = omega (arith, length-set ps n q, h.some);
    sorted = ap (is_sorted key_cmp) rows ∙ without_sorted k (joined ps) h.sorted;
    filled = filled_set ps n q h.filled some;
    bounded = bounded_set ps n q h.bounded few;
  };
  rows = rows;
  need_ = needs;
}
  where
    there : p ≡ get_or ps (home k ps) p
    there = is ∙ ap (λ (i : ℕ). get_or ps i p) at

    q_is : q ≡ without k (get_or ps (home k ps) p)
    q_is = made ∙ ap (without k) there

    less : length q ≤ length (get_or ps (home k ps) p)
    less = subst (λ (l : RowList). length l ≤ length (get_or ps (home k ps) p)) (sym q_is) (without-le k (get_or ps (home k ps) p))

    few : length q ≤ 256
    few = let bound = bound_at ps (home k ps) p h.bounded (home-lt k ps h.some) in omega (arith, less, bound)

    rows : joined (slice_set ps n q) ≡ without k (joined ps)
    rows = (λ i. joined (slice_set ps (at i) (q_is i))) ∙ joined_without k ps p h.sorted h.some

    order : IsSorted (get_or ps (home k ps) p)
    order = page_sorted ps (home k ps) p h.sorted (home-lt k ps h.some)

    needs : (cs : List (ChangeOf Row)) → below_all key_cmp k cs ≡ true → need (slice_set ps n q) cs ≤ need ps ((k, None) ∷ cs)
    needs cs above =
        subst (λ (i : ℕ). need (slice_set ps i q) cs ≤ need ps ((k, None) ∷ cs)) (sym at)
        (need_set ps (k, None) cs q p h.some above
        (subst (λ (l : RowList). AreAlike k (get_or ps (home k ps) p) l) (sym q_is) (without_alike k (get_or ps (home k ps) p) order)) (omega (arith, less)))

-- where that leaves its page empty, and the page goes
pub remove_dropped : (k : StateKey) (ps : List RowList) (n : ℕ) (p q : RowList) → AreOpen ps → n ≡ home k ps → p ≡ get_or ps n p → q ≡ without k p → length q ≡ 0 → suc n < length ps
    → IsRemoved k ps (lists.remove (slice_set ps n q) n)
remove_dropped k ps n p q h at is made none lt = subst (λ (l : RowList). IsRemoved k ps (lists.remove (slice_set ps n l) n)) (sym (empty q none)) gone
  where
    empty : (l : RowList) → length l ≡ 0 → l ≡ []
    empty [] e = refl
    empty (e ∷ l) e0 = absurd (omega arith)

    nothing : [] ≡ without k p
    nothing = sym (empty q none) ∙ made

    there : p ≡ get_or ps (home k ps) p
    there = is ∙ ap (λ (i : ℕ). get_or ps i p) at

    rows : joined (lists.remove (slice_set ps n []) n) ≡ without k (joined ps)
    rows = joined_drop ps n ∙ (λ i. joined (slice_set ps (at i) ((nothing ∙ ap (without k) there) i))) ∙ joined_without k ps p h.sorted h.some

    set : length (slice_set ps n []) ≡ length ps
    set = length-set ps n []

    order : IsSorted (get_or ps (home k ps) p)
    order = page_sorted ps (home k ps) p h.sorted (home-lt k ps h.some)

    gone : IsRemoved k ps (lists.remove (slice_set ps n []) n)
    gone = record {
      open_ = record {
        some = simp (length-append, length-take, length-drop) (omega (arith, set));
        sorted = ap (is_sorted key_cmp) rows ∙ without_sorted k (joined ps) h.sorted;
        filled = filled_drop ps n h.filled lt;
        bounded = bounded_drop ps n h.bounded;
      };
      rows = rows;
      need_ = λ cs above.
          let one = need_drop ps n cs lt in
          let two = need_set ps (k, None) cs [] p h.some above
          (subst (λ (l : RowList). AreAlike k (get_or ps (home k ps) p) l) (sym (nothing ∙ ap (without k) there)) (without_alike k (get_or ps (home k ps) p) order)) (omega arith) in
          let three : need (slice_set ps n []) cs ≤ need ps ((k, None) ∷ cs) = subst (λ (i : ℕ). need (slice_set ps i []) cs ≤ need ps ((k, None) ∷ cs)) (sym at) two in
          omega (arith, one, three);
    }

-- ---- empty pages

pub empty_last : (ps : List RowList) (p : RowList) → AreEmpty (ps ++ p ∷ []) → AreEmpty ps × (p ≡ [])
empty_last [] p h = (tt, h.0)
empty_last (q ∷ ps) p h = let rest = empty_last ps p h.1 in ((h.0, rest.0), rest.1)

pub empty_more : (ps : List RowList) (p : RowList) → AreEmpty ps → p ≡ [] → AreEmpty (ps ++ p ∷ [])
empty_more [] p h e = (e, tt)
empty_more (q ∷ ps) p h e = (h.0, empty_more ps p h.1 e)

pub some_rows : (n : ℕ) → (n == 0) ≡ false → 0 < n
some_rows n h =
    let not_none : n ≡ 0 → ⊥ = λ e. let wrong : false ≡ true = sym h ∙ (unsigned_Decides n 0).1 e in cc in
    omega (arith, not_none)

-- what is read at a place that is there doesn't hang on the default
pub any_default : (ps : List RowList) (n : ℕ) (d e : RowList) → n < length ps → get_or ps n d ≡ get_or ps n e
any_default [] n d e lt = absurd (omega arith)
any_default (p ∷ ps) zero d e lt = refl
any_default (p ∷ ps) (suc n) d e lt = any_default ps n d e (omega arith)

-- ---- the last page, once all changes are made

last_rows : List RowList → RowList
last_rows ps = get_or ps (length ps - 1) []

last_step : (p q : RowList) (ps : List RowList) → last_rows (p ∷ q ∷ ps) ≡ last_rows (q ∷ ps)
unfolding last_rows
last_step p q ps = let e : length (p ∷ q ∷ ps) - 1 ≡ suc (length (q ∷ ps) - 1) = omega arith in ap (λ (n : ℕ). get_or (p ∷ q ∷ ps) n []) e

sized_whole : (ps : List RowList) → 0 < length ps → AreFilled ps → AreBounded ps → 0 < length (last_rows ps) → AreSized ps
unfolding last_rows
sized_whole [] some f b h = absurd (omega arith)
sized_whole (p ∷ []) some f b h = (h, b.0, tt)
sized_whole (p ∷ q ∷ ps) some f b h = (f.0, b.0, sized_whole (q ∷ ps) (omega arith) f.1 b.1 (subst (λ (l : RowList). 0 < length l) (last_step p q ps) h))

sized_others : (ps : List RowList) → AreFilled ps → AreBounded ps → AreSized (others ps)
sized_others [] f b = tt
sized_others (p ∷ []) f b = tt
sized_others (p ∷ q ∷ ps) f b = (f.0, b.0, sized_others (q ∷ ps) f.1 b.1)

joined_others : (ps : List RowList) → length (last_rows ps) ≡ 0 → joined (others ps) ≡ joined ps
unfolding last_rows
joined_others [] e = refl
joined_others (p ∷ []) e = sym (append-nil p ∙ none p e)
  where
    none : (l : RowList) → length l ≡ 0 → l ≡ []
    none [] e = refl
    none (x ∷ l) e = absurd (omega arith)
joined_others (p ∷ q ∷ ps) e = ap (λ (l : RowList). p ++ l) (joined_others (q ∷ ps) (ap length (sym (last_step p q ps)) ∙ e))

pub closed_whole : (ps : List RowList) → AreOpen ps → 0 < length (get_or ps (length ps - 1) []) → ArePages ps
unfolding last_rows
closed_whole ps h some = (h.sorted, sized_whole ps h.some h.filled h.bounded some)

pub closed_rows : (ps : List RowList) → length (get_or ps (length ps - 1) []) ≡ 0 → joined (take (length ps - 1) ps) ≡ joined ps
unfolding last_rows
closed_rows ps e = ap joined (others-take ps) ∙ joined_others ps e

pub closed_part : (ps : List RowList) → AreOpen ps → length (get_or ps (length ps - 1) []) ≡ 0 → ArePages (take (length ps - 1) ps)
closed_part ps h e = (ap (is_sorted key_cmp) (closed_rows ps e) ∙ h.sorted, subst AreSized (sym (others-take ps)) (sized_others ps h.filled h.bounded))
