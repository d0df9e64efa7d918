-- Pages in order: their last rows, and where a key belongs.
use Rattle.std.proofs.Common.{◌≡◌, ℕ, zero, suc, ◌-◌, ◌<◌, ◌≤◌, Bool, true, false, List, [], ◌∷◌, ◌++◌, ◌&&◌, ◌||◌, length, get_or, take, refl, sym, ap, ◌∙◌, ◌+◌, map, append-nil, length-append, arith}
use Rattle.std.specs.Prelude.{if◌then◌else◌, sum}
use Rattle.std.specs.List.{list_all, list_any}
use Rattle.std.proofs.lemmas.List.Sums.{sum_by-cons}
use Rattle.std.specs.FinMap.{find}
use Rattle.rules.specs.State.{StateKey, key_cmp}
use Rattle.rules.specs.declared.row.Row.{Row}
use Rattle.state_keys.specs.Head.{head_of, padded}
use Rattle.state_db.specs.Search.{Keyed, IsSorted, is_below, leading, Falls}
use Rattle.state_db.specs.Need.{AreBounded, AreOpen}
use Rattle.state_db.specs.Pages.{ArePages, RowList, joined, AreFilled, AreSized, AreInOrder, is_page_below, home, last_head}
use Rattle.state_db.proofs.Leading.{passes_at}
use Rattle.state_db.proofs.Order.{any_append, alone, others_decide, none_behind, sorted_front, sorted_back, find_skip, find_in}

-- ---- the last row

last_at : (p : RowList) (n : ℕ) → length p ≡ suc n → (e : Keyed Row) → e ≡ get_or p n e → (last_head p ≡ head_of e.0) × ((k : StateKey) → is_page_below k p ≡ is_below k e)
last_at [] n l e is = absurd (omega arith)
last_at (f ∷ []) zero l e is = (ap (λ (x : Keyed Row). head_of x.0) (sym is), λ k. ap (is_below k) (sym is))
last_at (f ∷ []) (suc n) l e is = absurd (omega arith)
last_at (f ∷ g ∷ p) zero l e is = absurd (omega arith)
last_at (f ∷ g ∷ p) (suc n) l e is = last_at (g ∷ p) n (omega arith) e is

pub no_last : (p : RowList) → length p ≡ 0 → padded 24 [] ≡ last_head p
no_last [] e = refl
no_last (e ∷ p) l = absurd (omega arith)

pub its_head : (p : RowList) (e : Keyed Row) → 0 < length p → e ≡ get_or p (length p - 1) e → last_head p ≡ head_of e.0
its_head p e some is = (last_at p (length p - 1) (omega arith) e is).0

pub its_order : (k : StateKey) (p : RowList) (e : Keyed Row) → 0 < length p → e ≡ get_or p (length p - 1) e → is_page_below k p ≡ is_below k e
its_order k p e some is = (last_at p (length p - 1) (omega arith) e is).1 k

-- ---- where a key belongs

-- in a page in order the last row decides for all
pub below_all_of : (k : StateKey) (p : RowList) → IsSorted p → is_page_below k p ≡ list_all (is_below k) p
below_all_of k [] h = refl
below_all_of k (e ∷ []) h = alone (is_below k e)
below_all_of k (e ∷ f ∷ p) h = below_all_of k (f ∷ p) (sorted_back (e ∷ []) (f ∷ p) h) ∙ others_decide k e f p h

-- all pages but the last
abbrev pub others : List RowList → List RowList
others [] = []
others (p ∷ []) = []
others (p ∷ q ∷ ps) = p ∷ others (q ∷ ps)

pub others-take : (ps : List RowList) → take (length ps - 1) ps ≡ others ps
others-take [] = refl
others-take (p ∷ []) = refl
others-take (p ∷ q ∷ ps) =
    let e : length (p ∷ q ∷ ps) - 1 ≡ suc (length (q ∷ ps) - 1) = omega arith in
    ap (λ (n : ℕ). take n (p ∷ q ∷ ps)) e ∙ ap (λ (qs : List RowList). p ∷ qs) (others-take (q ∷ ps))

pub home-leading : (k : StateKey) (ps : List RowList) → leading (is_page_below k) (others ps) ≡ home k ps
home-leading k [] = refl
home-leading k (p ∷ []) = refl
home-leading k (p ∷ q ∷ ps) = ap (λ (n : ℕ). if is_page_below k p then suc n else 0) (home-leading k (q ∷ ps))

-- a page that isn't all before the key has none behind it that is
filled_above : (k : StateKey) (p : RowList) → IsSorted p → 0 < length p → list_any (is_below k) p ≡ false → is_page_below k p ≡ false
filled_above k [] h some none = absurd (omega arith)
filled_above k (e ∷ p) h some none = below_all_of k (e ∷ p) h ∙ by (is_below k e) none
  where
    by : (b : Bool) → (b || list_any (is_below k) p) ≡ false → (b && list_all (is_below k) p) ≡ false
    by true s = absurd cc
    by false s = refl

front_any : {Y : Type 0} (test : Y → Bool) (xs ys : List Y) → list_any test (xs ++ ys) ≡ false → list_any test xs ≡ false
front_any test [] ys h = refl
front_any test (x ∷ xs) ys h = by (test x) h (front_any test xs ys)
  where
    by : (b : Bool) → (b || list_any test (xs ++ ys)) ≡ false → (list_any test (xs ++ ys) ≡ false → list_any test xs ≡ false) → (b || list_any test xs) ≡ false
    by true s r = absurd cc
    by false s r = r s

none_of_pages : (k : StateKey) (ps : List RowList) → AreInOrder ps → list_any (is_below k) (joined ps) ≡ false → list_any (is_page_below k) (others ps) ≡ false
none_of_pages k [] h none = refl
none_of_pages k (p ∷ []) h none = refl
none_of_pages k (p ∷ q ∷ ps) h none = λ i.
    filled_above k p (sorted_front p (joined (q ∷ ps)) h.0) h.1.0 (front_any (is_below k) p (joined (q ∷ ps)) none) i
    || none_of_pages k (q ∷ ps) (sorted_back p (joined (q ∷ ps)) h.0, h.1.1) (any_append (is_below k) p (joined (q ∷ ps)) none) i

pub falls_pages : (k : StateKey) (ps : List RowList) → AreInOrder ps → Falls (is_page_below k) (others ps)
falls_pages k [] h = tt
falls_pages k (p ∷ []) h = tt
falls_pages k (p ∷ q ∷ ps) h =
    (λ fails. none_of_pages k (q ∷ ps) rest (none_behind k p (joined (q ∷ ps)) h.0 (sym (below_all_of k p first) ∙ fails)), falls_pages k (q ∷ ps) rest)
  where
    first : IsSorted p
    first = sorted_front p (joined (q ∷ ps)) h.0

    rest : AreInOrder (q ∷ ps)
    rest = (sorted_back p (joined (q ∷ ps)) h.0, h.1.1)

pub home-lt : (k : StateKey) (ps : List RowList) → 0 < length ps → home k ps < length ps
home-lt k [] some = absurd (omega arith)
home-lt k (p ∷ []) some = omega arith
home-lt k (p ∷ q ∷ ps) some = by (is_page_below k p) (home-lt k (q ∷ ps) (omega arith))
  where
    by : (b : Bool) → home k (q ∷ ps) < suc (length ps) → (if b then suc (home k (q ∷ ps)) else 0) < suc (suc (length ps))
    by true h = omega arith
    by false h = omega arith

-- the key's row is in its page
pub find_home : (k : StateKey) (ps : List RowList) (d : RowList) → AreInOrder ps → 0 < length ps → find key_cmp k (joined ps) ≡ find key_cmp k (get_or ps (home k ps) d)
find_home k [] d h some = absurd (omega arith)
find_home k (p ∷ []) d h some = ap (find key_cmp k) (append-nil p)
find_home k (p ∷ q ∷ ps) d h some = by (is_page_below k p) (below_all_of k p (sorted_front p (joined (q ∷ ps)) h.0)) (find_home k (q ∷ ps) d (sorted_back p (joined (q ∷ ps)) h.0, h.1.1) (omega arith))
  where
    by : (b : Bool) → b ≡ list_all (is_below k) p → find key_cmp k (joined (q ∷ ps)) ≡ find key_cmp k (get_or (q ∷ ps) (home k (q ∷ ps)) d)
        → find key_cmp k (p ++ joined (q ∷ ps)) ≡ find key_cmp k (get_or (p ∷ q ∷ ps) (if b then suc (home k (q ∷ ps)) else 0) d)
    by true s r = find_skip k p (joined (q ∷ ps)) (sym s) ∙ r
    by false s r = find_in k p (joined (q ∷ ps)) h.0 (sym s)

pub page_sorted : (ps : List RowList) (n : ℕ) (d : RowList) → IsSorted (joined ps) → n < length ps → IsSorted (get_or ps n d)
page_sorted [] n d h lt = absurd (omega arith)
page_sorted (p ∷ ps) zero d h lt = sorted_front p (joined ps) h
page_sorted (p ∷ ps) (suc n) d h lt = page_sorted ps n d (sorted_back p (joined ps) h) (omega arith)

pub sized_filled : (ps : List RowList) → AreSized ps → AreFilled ps
sized_filled [] h = tt
sized_filled (p ∷ []) h = tt
sized_filled (p ∷ q ∷ ps) h = (h.0, sized_filled (q ∷ ps) h.2)

-- ---- their sizes

pub no_pages : (ps : List RowList) → length ps ≡ 0 → joined ps ≡ []
no_pages [] e = refl
no_pages (p ∷ ps) e = absurd (omega arith)

pub sizes_sum : (ps : List RowList) → sum (map length ps) ≡ length (joined ps)
sizes_sum [] = refl
sizes_sum (p ∷ ps) = sum_by-cons (λ (n : ℕ). n) (length p) (map length ps) ∙ ap (λ (n : ℕ). length p + n) (sizes_sum ps) ∙ sym (length-append p (joined ps))

pub size_at : (ps : List RowList) (n : ℕ) (d : RowList) → AreSized ps → n < length ps → (0 < length (get_or ps n d)) × (length (get_or ps n d) ≤ 256)
size_at [] n d h lt = absurd (omega arith)
size_at (p ∷ ps) zero d h lt = (h.0, h.1)
size_at (p ∷ ps) (suc n) d h lt = size_at ps n d h.2 (omega arith)

pub sized_bounded : (ps : List RowList) → AreSized ps → AreBounded ps
sized_bounded [] h = tt
sized_bounded (p ∷ ps) h = (h.1, sized_bounded ps h.2)

-- pages of which there are some
pub opened : (ps : List RowList) → ArePages ps → 0 < length ps → AreOpen ps
opened ps h some = record { some = some; sorted = h.0; filled = sized_filled ps h.1; bounded = sized_bounded ps h.1 }

-- a page that ends before the key isn't its home, but if it is the last one
others_at : (ps : List RowList) (n : ℕ) (d : RowList) → suc n < length ps → (n < length (others ps)) × (get_or (others ps) n d ≡ get_or ps n d)
others_at [] n d lt = absurd (omega arith)
others_at (p ∷ []) n d lt = absurd (omega arith)
others_at (p ∷ q ∷ ps) zero d lt = (omega arith, refl)
others_at (p ∷ q ∷ ps) (suc n) d lt = let rest = others_at (q ∷ ps) n d (omega arith) in (omega (arith, rest.0), rest.1)

pub passed_home : (k : StateKey) (ps : List RowList) (n : ℕ) (d : RowList) → AreInOrder ps → suc n < length ps → is_page_below k (get_or ps n d) ≡ true → n < home k ps
passed_home k ps n d h lt below =
    let at = others_at ps n d lt in
    let passes = passes_at (is_page_below k) (others ps) n d (falls_pages k ps h) at.0 (ap (is_page_below k) at.1 ∙ below) in
    omega (arith, passes, home-leading k ps)
