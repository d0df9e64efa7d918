-- Tasks of which all from one on are there.
use Rattle.std.proofs.Common.{◌≡◌, ◌≢◌, ◌⊎◌, inl, inr, ℕ, zero, suc, ◌+◌, ◌<◌, ◌≤◌, eqb, leb, ltb, Bool, true, false, cond, ◌||◌, List, length, set, get_or, refl, sym, ap, ◌∙◌, arith}
use Rattle.std.specs.Prelude.{replicate}
use Rattle.std.proofs.Math.ListN.{get_or-eq_default}
use Rattle.std.proofs.lemmas.Bool.{lt-ltb, le-ltb, ltb-false}
use Rattle.std.proofs.lemmas.Bool.Decides.{eqb_tells, leb_tells}
use Rattle.std.proofs.lemmas.List.{get_or-set_same, get_or-set_other, get_or-replicate, length-replicate, length-set, same_lists}
use Rattle.std.proofs.lemmas.List.FromFn.{get_or-map-range_with_len, length-map-range_with_len}
use Rattle.task_desk.specs.Bits.{IsLeast, IsEmpty}
use Rattle.task_desk.specs.Groups.{is_member}
use Rattle.task_desk.specs.Runs.{with_run}
use Rattle.task_desk.specs.Unhanded.{is_shown, with_fresh, AreBefore, IsRunPut, IsFirstRun}
use Rattle.task_desk.proofs.Grouping.{true_false, member-below, none-member}

pub fresh-length : (others : List Bool) (fresh : ℕ) → length (with_fresh others fresh) ≡ length others
fresh-length others fresh = length-map-range_with_len (is_shown others fresh) 0 (length others)

fresh-at : (others : List Bool) (fresh k : ℕ) (d : Bool) → k < length others → get_or (with_fresh others fresh) k d ≡ is_shown others fresh k
fresh-at others fresh k d lt = get_or-map-range_with_len (is_shown others fresh) 0 (length others) k k d lt (omega arith)

shown-before : (others : List Bool) (fresh k : ℕ) → k < fresh → is_shown others fresh k ≡ is_member others k
shown-before others fresh k lt = ap (λ c. cond c (is_member others k) true) (lt-ltb k fresh lt)

shown-fresh : (others : List Bool) (fresh k : ℕ) → fresh ≤ k → is_shown others fresh k ≡ true
shown-fresh others fresh k le = ap (λ c. cond c (is_member others k) true) (le-ltb k fresh le)

-- ---- one task changes

changes : (others changed : List Bool) (fresh moved t : ℕ) (m : Bool) → length changed ≡ length others → t < length others → is_shown changed moved t ≡ m
    → ((k : ℕ) → k ≢ t → is_shown changed moved k ≡ is_shown others fresh k) → with_fresh changed moved ≡ set (with_fresh others fresh) t m
changes others changed fresh moved t m same lt here there =
    same_lists (with_fresh changed moved) (set (with_fresh others fresh) t m)
    (fresh-length changed moved ∙ same ∙ sym (length-set (with_fresh others fresh) t m ∙ fresh-length others fresh))
    (λ k d below. at k d (omega (arith, below, same, fresh-length changed moved)) (eqb_tells k t))
  where
    at : (k : ℕ) (d : Bool) → k < length others → ((eqb k t ≡ true) × (k ≡ t)) ⊎ ((eqb k t ≡ false) × (k ≢ t)) → get_or (with_fresh changed moved) k d ≡ get_or (set (with_fresh others fresh) t m) k d
    at k d below (inl e) =
        fresh-at changed moved k d (omega (arith, below, same)) ∙ ap (is_shown changed moved) e.1 ∙ here
        ∙ sym (ap (λ (n : ℕ). get_or (set (with_fresh others fresh) t m) n d) e.1 ∙ get_or-set_same (with_fresh others fresh) t m d (omega (arith, lt, fresh-length others fresh)))
    at k d below (inr e) =
        fresh-at changed moved k d (omega (arith, below, same)) ∙ there k e.1
        ∙ sym (get_or-set_other (with_fresh others fresh) t k m d e.1 ∙ fresh-at others fresh k d below)

pub set-before : (others : List Bool) (fresh t : ℕ) (m : Bool) → t < fresh → t < length others → with_fresh (set others t m) fresh ≡ set (with_fresh others fresh) t m
set-before others fresh t m before lt =
    changes others (set others t m) fresh fresh t m (length-set others t m) lt
    (shown-before (set others t m) fresh t before ∙ get_or-set_same others t m false lt)
    (λ k apart. ap (λ b. cond (ltb k fresh) b true) (get_or-set_other others t k m false apart))

pub leave-before : (others : List Bool) (fresh count t : ℕ) (has : Bool) → AreBefore others fresh count has → t < fresh → AreBefore (set others t false) fresh count has
leave-before others fresh count t has are before = record {
  small = are.small;
  all = length-set others t false ∙ are.all;
  bound = are.bound;
  before = λ k le. get_or-set_other others t k false false (λ e. absurd (omega (arith, e, le, before))) ∙ are.before k le;
  none = λ none_there k. by k (are.none none_there) (eqb_tells k t);
}
  where
    inside : t < length others
    inside = let all = are.all in let bound = are.bound in omega (arith, all, bound, before)

    by : (k : ℕ) → IsEmpty others → ((eqb k t ≡ true) × (k ≡ t)) ⊎ ((eqb k t ≡ false) × (k ≢ t)) → is_member (set others t false) k ≡ false
    by k empty (inl e) = ap (is_member (set others t false)) e.1 ∙ get_or-set_same others t false false inside
    by k empty (inr e) = get_or-set_other others t k false false e.1 ∙ empty k

pub come-back-before : (others : List Bool) (fresh count t : ℕ) (has : Bool) → AreBefore others fresh count has → t < fresh → AreBefore (set others t true) fresh count true
come-back-before others fresh count t has are before = record {
  small = are.small;
  all = length-set others t true ∙ are.all;
  bound = are.bound;
  before = λ k le. get_or-set_other others t k true false (λ e. absurd (omega (arith, e, le, before))) ∙ are.before k le;
  none = λ e. absurd (let wrong : true ≡ false = e in cc);
}

pub leaves : (others put : List Bool) (fresh count t : ℕ) (has : Bool) → AreBefore others fresh count has → fresh ≤ t → t < length others → IsRunPut others fresh t put → with_fresh put (t + 1) ≡ set (with_fresh others fresh) t false
leaves others put fresh count t has are from lt is =
    changes others put fresh (t + 1) t false is.all lt
    (shown-before put (t + 1) t (omega arith) ∙ is.above t (omega arith) ∙ are.before t from)
    (λ k apart. there k apart (leb_tells fresh k) (leb_tells t k))
  where
    there : (k : ℕ) → k ≢ t → ((leb fresh k ≡ true) × (fresh ≤ k)) ⊎ ((leb fresh k ≡ false) × (k < fresh)) → ((leb t k ≡ true) × (t ≤ k)) ⊎ ((leb t k ≡ false) × (k < t)) → is_shown put (t + 1) k ≡ is_shown others fresh k
    there k apart (inr d) e = let below = d.1 in shown-before put (t + 1) k (omega (arith, below, from)) ∙ is.below k below ∙ sym (shown-before others fresh k below)
    there k apart (inl d) (inr e) = let under = e.1 in shown-before put (t + 1) k (omega (arith, under)) ∙ is.inside k d.1 under ∙ sym (shown-fresh others fresh k d.1)
    there k apart (inl d) (inl e) = let over = e.1 in shown-fresh put (t + 1) k (omega (arith, over, apart)) ∙ sym (shown-fresh others fresh k d.1)

pub leave-keeps : (others put : List Bool) (fresh count t : ℕ) (has : Bool) → AreBefore others fresh count has → fresh ≤ t → t < length others → IsRunPut others fresh t put → AreBefore put (t + 1) count (has || ltb fresh t)
leave-keeps others put fresh count t has are from lt is = record {
  small = are.small;
  all = is.all ∙ are.all;
  bound = let all = are.all in omega (arith, all, lt);
  before = λ k le. is.above k (omega (arith, le)) ∙ are.before k (omega (arith, le, from));
  none = λ none_there k. empty k (neither has (ltb fresh t) none_there) (leb_tells t k);
}
  where
    neither : (a b : Bool) → (a || b) ≡ false → (a ≡ false) × (b ≡ false)
    neither false b e = (refl, e)
    neither true b e = absurd (let wrong : true ≡ false = e in cc)

    empty : (k : ℕ) → (has ≡ false) × (ltb fresh t ≡ false) → ((leb t k ≡ true) × (t ≤ k)) ⊎ ((leb t k ≡ false) × (k < t)) → is_member put k ≡ false
    empty k (not_has, not_less) (inl d) = is.above k d.1 ∙ are.none not_has k
    empty k (not_has, not_less) (inr d) = is.below k (let under = d.1 in let same = ltb-false fresh t not_less in omega (arith, under, same)) ∙ are.none not_has k

-- what is away is before the fresh ones
pub away-before : (others : List Bool) (fresh t : ℕ) → t < length others → is_member (with_fresh others fresh) t ≡ false → t < fresh
away-before others fresh t lt away = by (leb_tells fresh t)
  where
    by : ((leb fresh t ≡ true) × (fresh ≤ t)) ⊎ ((leb fresh t ≡ false) × (t < fresh)) → t < fresh
    by (inl d) = true_false (is_member (with_fresh others fresh) t) (fresh-at others fresh t false lt ∙ shown-fresh others fresh t d.1) away
    by (inr d) = d.1

-- ---- all

pub all-fresh : (others : List Bool) (count : ℕ) → others ≡ replicate count false → with_fresh others 0 ≡ replicate count true
all-fresh others count is =
    same_lists (with_fresh others 0) (replicate count true) (fresh-length others 0 ∙ long ∙ sym (length-replicate {A = Bool} count true))
    (λ k d below. let lt : k < length others = omega (arith, below, fresh-length others 0) in
    fresh-at others 0 k d lt ∙ shown-fresh others 0 k (omega arith) ∙ sym (get_or-replicate count k true d (omega (arith, lt, long))))
  where
    long : length others ≡ count
    long = ap (λ (xs : List Bool). length xs) is ∙ length-replicate {A = Bool} count false

pub none-before : (others : List Bool) (count : ℕ) → count ≤ 8192 → others ≡ replicate count false → AreBefore others 0 count false
none-before others count small is = record {
  small = small;
  all = ap (λ (xs : List Bool). length xs) is ∙ length-replicate {A = Bool} count false;
  bound = omega arith;
  before = λ k le. none-member others count k is;
  none = λ e k. none-member others count k is;
}

-- ---- the least

pub least-other : (others : List Bool) (fresh count t : ℕ) (has : Bool) → AreBefore others fresh count has → IsLeast others t → IsLeast (with_fresh others fresh) t
least-other others fresh count t has are first = by (leb_tells fresh t)
  where
    inside : t < length others
    inside = member-below others t first.member

    by : ((leb fresh t ≡ true) × (fresh ≤ t)) ⊎ ((leb fresh t ≡ false) × (t < fresh)) → IsLeast (with_fresh others fresh) t
    by (inl d) = true_false (is_member others t) first.member (are.before t d.1)
    by (inr d) = let before = d.1 in record {
      member = fresh-at others fresh t false inside ∙ shown-before others fresh t before ∙ first.member;
      least = λ j lt. fresh-at others fresh j false (omega (arith, lt, inside)) ∙ shown-before others fresh j (omega (arith, lt, before)) ∙ first.least j lt;
    }

pub least-fresh : (others : List Bool) (fresh count : ℕ) (has : Bool) → AreBefore others fresh count has → IsEmpty others → fresh < count → IsLeast (with_fresh others fresh) fresh
least-fresh others fresh count has are none lt = record {
  member = fresh-at others fresh fresh false inside ∙ shown-fresh others fresh fresh (omega arith);
  least = λ j below. fresh-at others fresh j false (omega (arith, below, inside)) ∙ shown-before others fresh j below ∙ none j;
}
  where
    inside : fresh < length others
    inside = let all = are.all in omega (arith, all, lt)

pub none-left : (others : List Bool) (fresh count : ℕ) (has : Bool) → AreBefore others fresh count has → IsEmpty others → count ≤ fresh → IsEmpty (with_fresh others fresh)
none-left others fresh count has are none le k = by (leb_tells (length others) k)
  where
    by : ((leb (length others) k ≡ true) × (length others ≤ k)) ⊎ ((leb (length others) k ≡ false) × (k < length others)) → is_member (with_fresh others fresh) k ≡ false
    by (inl d) = get_or-eq_default (with_fresh others fresh) false (let beyond = d.1 in omega (arith, beyond, fresh-length others fresh))
    by (inr d) = let lt = d.1 in let all = are.all in fresh-at others fresh k false lt ∙ shown-before others fresh k (omega (arith, lt, all, le)) ∙ none k

-- ---- a run leaves

pub fresh-keeps : (others : List Bool) (fresh moved count : ℕ) (has : Bool) → AreBefore others fresh count has → fresh ≤ moved → moved ≤ count → AreBefore others moved count has
fresh-keeps others fresh moved count has are from to = record {
  small = are.small;
  all = are.all;
  bound = to;
  before = λ k le. are.before k (omega (arith, from, le));
  none = are.none;
}

pub fresh-leave : (others : List Bool) (fresh count n : ℕ) (has : Bool) → AreBefore others fresh count has → fresh + n ≤ count → with_fresh others (fresh + n) ≡ with_run false (with_fresh others fresh) fresh n
fresh-leave others fresh count zero has are room = let same : fresh + 0 ≡ fresh = omega arith in ap (with_fresh others) same
fresh-leave others fresh count (suc n) has are room =
    ap (with_fresh others) further
    ∙ fresh-leave others (suc fresh) count n has (fresh-keeps others fresh (suc fresh) count has are (omega arith) (omega (arith, room))) (omega (arith, room))
    ∙ ap (λ (xs : List Bool). with_run false xs (suc fresh) n) one
  where
    further : fresh + suc n ≡ suc fresh + n
    further = omega arith

    next : suc fresh ≡ fresh + 1
    next = omega arith

    one : with_fresh others (suc fresh) ≡ set (with_fresh others fresh) fresh false
    one =
        ap (with_fresh others) next
        ∙ leaves others others fresh count fresh has are (omega arith) (let all = are.all in omega (arith, all, room)) (record { all = refl; below = λ k lt. refl; inside = λ k le lt. absurd (omega (arith, le, lt)); above = λ k le. refl })

pub fresh-run : (others : List Bool) (fresh count most n : ℕ) (has : Bool) → AreBefore others fresh count has → IsEmpty others → fresh + n ≤ count → n ≤ most → (n ≡ 0 → count ≤ fresh) → IsFirstRun (with_fresh others fresh) most fresh (fresh + n)
fresh-run others fresh count most n has are none room few some = record {
  order = omega arith;
  size = omega (arith, few);
  all = let all = are.all in omega (arith, all, room, fresh-length others fresh);
  are = λ k from to. fresh-at others fresh k false (let all = are.all in omega (arith, all, room, to)) ∙ shown-fresh others fresh k from;
  least = λ lt k below. fresh-at others fresh k false (let all = are.all in omega (arith, all, room, below)) ∙ shown-before others fresh k below ∙ none k;
  none = λ e. none-left others fresh count has are none (some (omega (arith, e)));
}

pub other-run : (others : List Bool) (fresh count most t : ℕ) (has : Bool) → AreBefore others fresh count has → 0 < most → IsLeast others t → IsFirstRun (with_fresh others fresh) most t (t + 1)
other-run others fresh count most t has are some first =
    let least = least-other others fresh count t has are first in record {
      order = omega arith;
      size = omega (arith, some);
      all = let inside = member-below (with_fresh others fresh) t least.member in omega (arith, inside);
      are = λ k from to. let same : k ≡ t = omega (arith, from, to) in ap (is_member (with_fresh others fresh)) same ∙ least.member;
      least = λ lt k below. least.least k below;
      none = λ e. absurd (omega (arith, e));
    }

-- one that isn't fresh is before those that are
pub other-before : (others : List Bool) (fresh count t : ℕ) (has : Bool) → AreBefore others fresh count has → IsLeast others t → t < fresh
other-before others fresh count t has are first = by (leb_tells fresh t)
  where
    by : ((leb fresh t ≡ true) × (fresh ≤ t)) ⊎ ((leb fresh t ≡ false) × (t < fresh)) → t < fresh
    by (inl d) = true_false (is_member others t) first.member (are.before t d.1)
    by (inr d) = d.1
