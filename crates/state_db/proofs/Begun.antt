-- A row behind all others that begins a page of its own.
use Rattle.std.proofs.Common.{◌≡◌, ℕ, suc, ◌+◌, ◌<◌, ◌≤◌, Bool, true, false, List, [], ◌∷◌, ◌++◌, ◌&&◌, Some, length, get_or, refl, sym, ap, ◌∙◌, length-append, append-nil, append_assoc, arith}
use Rattle.std.specs.Prelude.{if◌then◌else◌}
use Rattle.std.specs.List.{list_all}
use Rattle.std.specs.FinMap.{is_sorted}
use Rattle.std.specs.FinMap.Entries.{put, below_all}
use Rattle.rules.specs.declared.row.Row.{Row}
use Rattle.rules.specs.State.{StateKey, ChangeOf, key_cmp}
use Rattle.rules.proofs.Booleans.{both_true}
use Rattle.state_db.specs.Search.{IsSorted, is_below}
use Rattle.state_db.specs.Pages.{RowList, joined, AreFilled, is_page_below, home}
use Rattle.state_db.specs.Need.{need, AreBounded, AreOpen}
use Rattle.state_db.specs.Steps.{IsPut, IsBehindFull}
use Rattle.state_db.proofs.Order.{sorted_front, sorted_back}
use Rattle.state_db.proofs.PageOrder.{below_all_of}
use Rattle.state_db.proofs.Puts.{put_skip}
use Rattle.state_db.proofs.Needs.{all_past, none_up_to}
use Rattle.state_db.proofs.Opened.{put_sorted}

-- a page that is full, whose last row stands before a key that belongs to it, is the last
pub at_end : (k : StateKey) (ps : List RowList) (p d : RowList) → 0 < length ps → p ≡ get_or ps (home k ps) d → length p ≡ 256 → is_page_below k p ≡ true → IsBehindFull k ps
at_end k [] p d some is full below = tt
at_end k (q ∷ []) p d some is full below = (ap (is_page_below k) (sym is) ∙ below, ap length (sym is) ∙ full)
at_end k (q ∷ r ∷ ps) p d some is full below = by (is_page_below k q) refl is (λ e. at_end k (r ∷ ps) p d (omega arith) e full below)
  where
    by : (b : Bool) → is_page_below k q ≡ b → p ≡ get_or (q ∷ r ∷ ps) (if b then suc (home k (r ∷ ps)) else 0) d → (p ≡ get_or (r ∷ ps) (home k (r ∷ ps)) d → IsBehindFull k (r ∷ ps))
        → (is_page_below k q ≡ true) × IsBehindFull k (r ∷ ps)
    by true h e rest = (h, rest e)
    by false h e rest = absurd (let wrong : false ≡ true = sym h ∙ ap (is_page_below k) (sym e) ∙ below in cc)

all_in_both : (k : StateKey) (es fs : RowList) → list_all (is_below k) es ≡ true → list_all (is_below k) fs ≡ true → list_all (is_below k) (es ++ fs) ≡ true
all_in_both k [] fs h g = g
all_in_both k (e ∷ es) fs h g =
    let parts = both_true (is_below k e) (list_all (is_below k) es) h in
    (λ i. parts.0 i && all_in_both k es fs parts.1 g i)

all_behind : (k : StateKey) (ps : List RowList) → IsSorted (joined ps) → IsBehindFull k ps → list_all (is_below k) (joined ps) ≡ true
all_behind k [] h last = refl
all_behind k (p ∷ []) h last = all_in_both k p [] (sym (below_all_of k p (sorted_front p [] h)) ∙ last.0) refl
all_behind k (p ∷ q ∷ ps) h last =
    all_in_both k p (joined (q ∷ ps)) (sym (below_all_of k p (sorted_front p (joined (q ∷ ps)) h)) ∙ last.0)
    (all_behind k (q ∷ ps) (sorted_back p (joined (q ∷ ps)) h) last.1)

joined_more : (ps : List RowList) (q : RowList) → joined (ps ++ q ∷ []) ≡ joined ps ++ q
joined_more [] q = append-nil q
joined_more (p ∷ ps) q = ap (λ (l : RowList). p ++ l) (joined_more ps q) ∙ sym (append_assoc p (joined ps) q)

filled_more : (k : StateKey) (ps : List RowList) (q : RowList) → AreFilled ps → IsBehindFull k ps → AreFilled (ps ++ q ∷ [])
filled_more k [] q h last = tt
filled_more k (p ∷ []) q h last = (omega (arith, last.1), tt)
filled_more k (p ∷ r ∷ ps) q h last = (h.0, filled_more k (r ∷ ps) q h.1 last.1)

bounded_more : (ps : List RowList) (q : RowList) → AreBounded ps → length q ≤ 256 → AreBounded (ps ++ q ∷ [])
bounded_more [] q h few = (few, tt)
bounded_more (p ∷ ps) q h few = (h.0, bounded_more ps q h.1 few)

-- the last page would have been split
need_begun : (k : StateKey) (v : Row) (ps : List RowList) (cs : List (ChangeOf Row)) → 0 < length ps → IsBehindFull k ps → below_all key_cmp k cs ≡ true
    → need (ps ++ ((k, v) ∷ []) ∷ []) cs + 1 ≤ need ps ((k, Some v) ∷ cs)
need_begun k v [] cs some last above = absurd (omega arith)
need_begun k v (p ∷ []) cs some last above = rw (none_up_to p k cs above last.0, all_past p k cs above last.0) (omega (arith, last.1))
need_begun k v (p ∷ q ∷ ps) cs some last above =
    let more = need_begun k v (q ∷ ps) cs (omega arith) last.1 above in
    let left : 0 < length (q ∷ ps ++ ((k, v) ∷ []) ∷ []) = omega arith in
    rw (none_up_to p k cs above last.0, all_past p k cs above last.0, last.0) (omega (arith, more))

pub put_begun : (k : StateKey) (v : Row) (ps : List RowList) (m : ℕ) → AreOpen ps → IsBehindFull k ps → IsPut k v ps (ps ++ ((k, v) ∷ []) ∷ []) (m + 1) m
put_begun k v ps m h last = record {
  open_ = record {
    some = simp length-append (omega arith);
    sorted = ap (is_sorted key_cmp) rows ∙ put_sorted k v (joined ps) h.sorted;
    filled = filled_more k ps ((k, v) ∷ []) h.filled last;
    bounded = bounded_more ps ((k, v) ∷ []) h.bounded (omega arith);
  };
  rows = rows;
  need_ = λ cs above. let more = need_begun k v ps cs h.some last above in omega (arith, more);
}
  where
    rows : joined (ps ++ ((k, v) ∷ []) ∷ []) ≡ put key_cmp k v (joined ps)
    rows =
        joined_more ps ((k, v) ∷ [])
        ∙ sym (put_skip k v (joined ps) [] (all_behind k ps h.sorted last))
        ∙ ap (put key_cmp k v) (append-nil (joined ps))
