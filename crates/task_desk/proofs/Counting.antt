-- What is counted, once one status has changed.
use Rattle.std.proofs.Common.{◌≡◌, ℕ, zero, suc, ◌+◌, ◌-◌, ◌<◌, ◌≤◌, Bool, true, false, cond, List, [], ◌∷◌, length, map, set, Option, Some, None, refl, sym, ap, ◌∙◌, arith}
use Rattle.std.specs.Prelude.{count_by, replicate, slice_index_or, MatchOption}
use Rattle.std.proofs.Math.ListN.{get_or-map}
use Rattle.std.proofs.lemmas.List.{map-set, length-set, length-replicate}
use Rattle.std.proofs.lemmas.List.Sums.{sum_by-set, sum_by-cons}
use Rattle.task_desk.specs.declared.status.Status.{Status}
use Rattle.task_desk.specs.declared.status.Status.TheVariants.{Ready, Handed, Out, Parked, Done}
use Rattle.task_desk.specs.Status.{is_unhanded, is_out, is_undone, status_at}
use Rattle.task_desk.specs.Runs.{with_run, IsNextRun}
use Rattle.task_desk.specs.Desk.{NoneUnhanded, IsNext}
use Rattle.task_desk.specs.Bits.{IsLeast, IsEmpty}
use Rattle.task_desk.specs.Unhanded.{IsFirstRun}
use Rattle.task_desk.specs.Counted.{IsCounted}
use Rattle.task_desk.proofs.StatusAt.{at_other}
use Rattle.task_desk.proofs.InRuns.{run-length, run-map, run-same}

-- the count of a test, once one status has changed
pub count-set : (p : Status → Bool) (tasks : List Status) (t : ℕ) (v : Status) → t < length tasks → count_by p (set tasks t v) + cond (p (status_at tasks t)) 1 0 ≡ count_by p tasks + cond (p v) 1 0
count-set p tasks t v lt = sum_by-set (λ x. cond (p x) 1 0) tasks t v Done lt

pub count-map : (p : Status → Bool) (f : Status → Status) (tasks : List Status) → ((s : Status) → p (f s) ≡ p s) → count_by p (map f tasks) ≡ count_by p tasks
count-map p f [] same = refl
count-map p f (s ∷ tasks) same =
    sum_by-cons (λ x. cond (p x) 1 0) (f s) (map f tasks) ∙ (λ k. cond (same s k) 1 0 + count-map p f tasks same k) ∙ sym (sum_by-cons (λ x. cond (p x) 1 0) s tasks)

pub counted-set : (tasks : List Status) (t : ℕ) (v : Status) (unhanded unhandeds : List Bool) (out undone outs undones : ℕ) → IsCounted tasks unhanded out undone → t < length tasks
    → unhandeds ≡ set unhanded t (is_unhanded v)
    → outs + cond (is_out (status_at tasks t)) 1 0 ≡ out + cond (is_out v) 1 0
    → undones + cond (is_undone (status_at tasks t)) 1 0 ≡ undone + cond (is_undone v) 1 0
    → IsCounted (set tasks t v) unhandeds outs undones
counted-set tasks t v unhanded unhandeds out undone outs undones counted lt is_unhandeds is_outs is_undones = record {
  small = let small = counted.small in omega (arith, length-set tasks t v);
  are_unhanded = is_unhandeds ∙ ap (λ (rs : List Bool). set rs t (is_unhanded v)) counted.are_unhanded ∙ sym (map-set is_unhanded tasks t v);
  are_out = let before = counted.are_out in let now = count-set is_out tasks t v lt in omega (arith, before, now, is_outs);
  are_undone = let before = counted.are_undone in let now = count-set is_undone tasks t v lt in omega (arith, before, now, is_undones);
}

-- ---- all ready

pub map-replicate : {X Y : Type 0} (f : X → Y) (n : ℕ) (x : X) → map f (replicate n x) ≡ replicate n (f x)
map-replicate f zero x = refl
map-replicate f (suc n) x = ap (λ ys. f x ∷ ys) (map-replicate f n x)

count-none : (p : Status → Bool) (n : ℕ) (s : Status) → p s ≡ false → count_by p (replicate n s) ≡ 0
count-none p zero s none = refl
count-none p (suc n) s none = sum_by-cons (λ x. cond (p x) 1 0) s (replicate n s) ∙ (λ k. cond (none k) 1 0 + count-none p n s none k)

count-every : (p : Status → Bool) (n : ℕ) (s : Status) → p s ≡ true → count_by p (replicate n s) ≡ n
count-every p zero s every = refl
count-every p (suc n) s every = sum_by-cons (λ x. cond (p x) 1 0) s (replicate n s) ∙ (λ k. cond (every k) 1 0 + count-every p n s every k) ∙ omega arith

pub counted-new : (n : ℕ) (tasks : List Status) (unhanded : List Bool) → n ≤ 8192 → tasks ≡ replicate n Ready → unhanded ≡ replicate n true → IsCounted tasks unhanded 0 n
counted-new n tasks unhanded small is is_unhanded_set = record {
  small = let same : length tasks ≡ n = ap (λ (xs : List Status). length xs) is ∙ length-replicate n Ready in omega arith;
  are_unhanded = is_unhanded_set ∙ sym (ap (map is_unhanded) is ∙ map-replicate is_unhanded n Ready);
  are_out = sym (ap (count_by is_out) is ∙ count-none is_out n Ready refl);
  are_undone = sym (ap (count_by is_undone) is ∙ count-every is_undone n Ready refl);
}

-- ---- the least

mark : (p : Status → Bool) (tasks : List Status) (t : ℕ) → slice_index_or (map p tasks) t (p Done) ≡ p (status_at tasks t)
mark p tasks t = get_or-map p tasks t Done

pub unhanded-found : (tasks : List Status) (unhanded : List Bool) (o : Option ℕ) → unhanded ≡ map is_unhanded tasks → MatchOption o (IsEmpty unhanded) (λ t. IsLeast unhanded t) → MatchOption o (NoneUnhanded tasks) (λ t. IsNext tasks t)
unhanded-found tasks unhanded None is none = λ t. sym (ap (λ (ms : List Bool). slice_index_or ms t false) is ∙ mark is_unhanded tasks t) ∙ none t
unhanded-found tasks unhanded (Some t) is least = record {
  unhanded = sym (ap (λ (ms : List Bool). slice_index_or ms t false) is ∙ mark is_unhanded tasks t) ∙ least.member;
  least = λ u lt. sym (ap (λ (ms : List Bool). slice_index_or ms u false) is ∙ mark is_unhanded tasks u) ∙ least.least u lt;
}

-- ---- a run changes

sums : (b c : Bool) (n x y z : ℕ) → x + cond b n 0 ≡ y + cond c n 0 → y + cond b 1 0 ≡ z + cond c 1 0 → x + cond b (suc n) 0 ≡ z + cond c (suc n) 0
sums true true n x y z one two = omega (arith, one, two)
sums true false n x y z one two = omega (arith, one, two)
sums false true n x y z one two = omega (arith, one, two)
sums false false n x y z one two = omega (arith, one, two)

-- the count of a test that holds of all of a run, or of none
pub count-run : (p : Status → Bool) (b : Bool) (v : Status) (tasks : List Status) (t n : ℕ) → t + n ≤ length tasks → ((u : ℕ) → t ≤ u → u < t + n → p (status_at tasks u) ≡ b)
    → count_by p (with_run v tasks t n) + cond b n 0 ≡ count_by p tasks + cond (p v) n 0
count-run p b v tasks t zero room are = (λ k. count_by p tasks + none b k) ∙ sym (λ k. count_by p tasks + none (p v) k)
  where
    none : (c : Bool) → ◌≡◌ {A = ℕ} (cond c 0 0) 0
    none true = refl
    none false = refl
count-run p b v tasks t (suc n) room are =
    sums b (p v) n (count_by p (with_run v (set tasks t v) (suc t) n)) (count_by p (set tasks t v)) (count_by p tasks)
    (count-run p b v (set tasks t v) (suc t) n (omega (arith, room, length-set tasks t v))
    (λ u from to. ap p (at_other tasks t u v (λ e. absurd (omega (arith, e, from)))) ∙ are u (omega (arith, from)) (omega (arith, to))))
    ((λ k. count_by p (set tasks t v) + cond (sym (are t (omega arith) (omega arith)) k) 1 0) ∙ count-set p tasks t v (omega (arith, room)))

unhanded-out : (s : Status) → is_unhanded s ≡ true → is_out s ≡ false
unhanded-out Ready is = refl
unhanded-out Handed is = refl
unhanded-out Out is = absurd cc
unhanded-out (Parked g) is = refl
unhanded-out Done is = refl

unhanded-undone : (s : Status) → is_unhanded s ≡ true → is_undone s ≡ true
unhanded-undone Ready is = refl
unhanded-undone Handed is = refl
unhanded-undone Out is = refl
unhanded-undone (Parked g) is = refl
unhanded-undone Done is = absurd cc

pub taken-counted : (tasks : List Status) (unhanded unhandeds : List Bool) (out undone t n : ℕ) → IsCounted tasks unhanded out undone → t + n ≤ length tasks
    → ((u : ℕ) → t ≤ u → u < t + n → is_unhanded (status_at tasks u) ≡ true) → unhandeds ≡ with_run false unhanded t n → IsCounted (with_run Out tasks t n) unhandeds (out + n) undone
taken-counted tasks unhanded unhandeds out undone t n counted room are is = record {
  small = let small = counted.small in omega (arith, small, run-length Out tasks t n);
  are_unhanded = is ∙ ap (λ (ms : List Bool). with_run false ms t n) counted.are_unhanded ∙ sym (run-map is_unhanded Out tasks t n);
  are_out = let before = counted.are_out in let now = count-run is_out false Out tasks t n room (λ u from to. unhanded-out (status_at tasks u) (are u from to)) in omega (arith, before, now);
  are_undone = let before = counted.are_undone in let now = count-run is_undone true Out tasks t n room (λ u from to. unhanded-undone (status_at tasks u) (are u from to)) in omega (arith, before, now);
}

pub finished-counted : (tasks : List Status) (unhanded : List Bool) (out undone from end : ℕ) → IsCounted tasks unhanded out undone → from ≤ end → end ≤ length tasks
    → ((t : ℕ) → from ≤ t → t < end → status_at tasks t ≡ Out)
    → (end - from ≤ out) × ((end - from ≤ undone) × IsCounted (with_run Done tasks from (end - from)) unhanded (out - (end - from)) (undone - (end - from)))
finished-counted tasks unhanded out undone from end counted order inside are = (
  omega (arith, outs, before_out),
  (
    omega (arith, undones, before_undone),
    record {
      small = let small = counted.small in omega (arith, small, run-length Done tasks from count);
      are_unhanded =
          counted.are_unhanded
          ∙ sym (run-map is_unhanded Done tasks from count ∙ run-same false (map is_unhanded tasks) from count false (λ t le lt. mark is_unhanded tasks t ∙ ap is_unhanded (here t le lt)));
      are_out = omega (arith, outs, before_out);
      are_undone = omega (arith, undones, before_undone);
    },
  ),
)
  where
    count : ℕ
    count = end - from

    here : (t : ℕ) → from ≤ t → t < from + (end - from) → status_at tasks t ≡ Out
    here t le lt = are t le (omega (arith, lt, order))

    outs : count_by is_out (with_run Done tasks from (end - from)) + (end - from) ≡ count_by is_out tasks + 0
    outs = count-run is_out true Done tasks from (end - from) (omega (arith, order, inside)) (λ t le lt. ap is_out (here t le lt))

    undones : count_by is_undone (with_run Done tasks from (end - from)) + (end - from) ≡ count_by is_undone tasks + 0
    undones = count-run is_undone true Done tasks from (end - from) (omega (arith, order, inside)) (λ t le lt. ap is_undone (here t le lt))

    before_out : out ≡ count_by is_out tasks
    before_out = counted.are_out

    before_undone : undone ≡ count_by is_undone tasks
    before_undone = counted.are_undone

pub run-found : (tasks : List Status) (unhanded : List Bool) (most from end : ℕ) → unhanded ≡ map is_unhanded tasks → IsFirstRun unhanded most from end → IsNextRun tasks most from end
run-found tasks unhanded most from end is run = record {
  order = run.order;
  size = run.size;
  unhanded = λ t le lt. here t ∙ run.are t le lt;
  least = λ some u lt. here u ∙ run.least some u lt;
  none = λ e t. here t ∙ run.none e t;
}
  where
    here : (t : ℕ) → is_unhanded (status_at tasks t) ≡ slice_index_or unhanded t false
    here t = sym (ap (λ (ms : List Bool). slice_index_or ms t false) is ∙ mark is_unhanded tasks t)
