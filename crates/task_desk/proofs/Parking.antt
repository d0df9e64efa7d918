-- The wait lists keep to the statuses, whatever call is made.
use Rattle.std.proofs.Common.{◌≡◌, ◌≢◌, ◌⊎◌, inl, inr, ℕ, suc, ◌+◌, ◌<◌, ◌≤◌, eqb, Bool, true, false, cond, ◌||◌, List, [], ◌∷◌, length, map, set, refl, sym, ap, subst, ◌∙◌, arith}
use Rattle.std.specs.Prelude.{count_by, replicate}
use Rattle.std.proofs.lemmas.Bool.Decides.{eqb_tells}
use Rattle.std.proofs.lemmas.List.{length-set, length-map, length-replicate, get_or_default, same_lists}
use Rattle.std.proofs.lemmas.List.Sums.{count_by-le-length}
use Rattle.task_desk.specs.declared.status.Status.{Status}
use Rattle.task_desk.specs.declared.status.Status.TheVariants.{Ready, Handed, Out, Parked, Done}
use Rattle.task_desk.specs.Status.{is_ready, is_unhanded, is_out, is_parked_on, status_at}
use Rattle.task_desk.specs.Desk.{woken, with_done}
use Rattle.task_desk.specs.Waiting.{has, list_at, with_ready, AreWaiting}
use Rattle.task_desk.specs.Links.{AreBelow}
use Rattle.task_desk.proofs.StatusAt.{at_set, at_other, at_woken, inside}
use Rattle.task_desk.proofs.Keeping.{ready_or_done}
use Rattle.task_desk.proofs.Linking.{same_test, list_at-set, list_at-other, empty_at}
use Rattle.task_desk.proofs.Counting.{count-set, count-map}

abbrev pub IsFree : Status → Type 0
IsFree s = (h : ℕ) → is_parked_on h s ≡ false

pub ready-free : (s : Status) → is_ready s ≡ true → IsFree s
ready-free Ready is h = refl
ready-free Handed is h = refl
ready-free Out is h = refl
ready-free (Parked g) is h = absurd cc
ready-free Done is h = refl

pub unhanded-ready : (s : Status) → is_unhanded s ≡ true → is_ready s ≡ true
unhanded-ready Ready is = refl
unhanded-ready Handed is = refl
unhanded-ready Out is = absurd cc
unhanded-ready (Parked g) is = absurd cc
unhanded-ready Done is = absurd cc

pub out-free : (s : Status) → is_out s ≡ true → IsFree s
out-free Ready is h = refl
out-free Handed is h = refl
out-free Out is h = refl
out-free (Parked g) is h = absurd cc
out-free Done is h = refl

-- ---- one status changes, and the task is parked neither before nor after that

pub waiting-set : (tasks : List Status) (lists : List (List ℕ)) (t : ℕ) (v : Status) → AreWaiting tasks lists → t < length tasks → IsFree (status_at tasks t) → IsFree v → AreWaiting (set tasks t v) lists
waiting-set tasks lists t v waiting lt was is = record {
  small = let small = waiting.small in omega (arith, length-set tasks t v);
  count = waiting.count ∙ sym (length-set tasks t v);
  parked = λ h u. at h u (eqb_tells u t);
  once = λ h. let before = waiting.once h in let now = same_count h in omega (arith, before, now);
}
  where
    at : (h u : ℕ) → ((eqb u t ≡ true) × (u ≡ t)) ⊎ ((eqb u t ≡ false) × (u ≢ t)) → has (list_at lists h) u ≡ is_parked_on h (status_at (set tasks t v) u)
    at h u (inl d) =
        waiting.parked h u ∙ ap (λ (n : ℕ). is_parked_on h (status_at tasks n)) d.1 ∙ was h
        ∙ sym (ap (λ (n : ℕ). is_parked_on h (status_at (set tasks t v) n)) d.1 ∙ ap (is_parked_on h) (at_set tasks t v lt) ∙ is h)
    at h u (inr d) = waiting.parked h u ∙ sym (ap (is_parked_on h) (at_other tasks t u v d.1))

    same_count : (h : ℕ) → count_by (is_parked_on h) (set tasks t v) + 0 ≡ count_by (is_parked_on h) tasks + 0
    same_count h = (λ k. count_by (is_parked_on h) (set tasks t v) + cond (sym (was h) k) 1 0) ∙ count-set (is_parked_on h) tasks t v lt ∙ ap (λ b. count_by (is_parked_on h) tasks + cond b 1 0) (is h)

-- ---- a task is parked

pub waiting-park : (tasks : List Status) (lists : List (List ℕ)) (t h : ℕ) → AreWaiting tasks lists → t < length tasks → h < length lists → IsFree (status_at tasks t)
    → AreWaiting (set tasks t (Parked h)) (set lists h (t ∷ list_at lists h))
waiting-park tasks lists t h waiting lt inside_lists was = record {
  small = let small = waiting.small in omega (arith, length-set tasks t (Parked h));
  count = length-set lists h (t ∷ list_at lists h) ∙ waiting.count ∙ sym (length-set tasks t (Parked h));
  parked = λ g u. at g u (eqb_tells g h) (eqb_tells u t);
  once = λ g. fewer g (eqb_tells g h);
}
  where
    lists' : List (List ℕ)
    lists' = set lists h (t ∷ list_at lists h)

    here : (g : ℕ) → g ≡ h → list_at lists' g ≡ t ∷ list_at lists h
    here g same = ap (list_at lists') same ∙ list_at-set lists h (t ∷ list_at lists h) inside_lists

    status : (g u : ℕ) → u ≡ t → is_parked_on g (status_at (set tasks t (Parked h)) u) ≡ eqb h g
    status g u same = ap (λ (n : ℕ). is_parked_on g (status_at (set tasks t (Parked h)) n)) same ∙ ap (is_parked_on g) (at_set tasks t (Parked h) lt)

    other : (g u : ℕ) → u ≢ t → is_parked_on g (status_at (set tasks t (Parked h)) u) ≡ is_parked_on g (status_at tasks u)
    other g u apart = ap (is_parked_on g) (at_other tasks t u (Parked h) apart)

    flipped : (a b : ℕ) → a ≢ b → ((eqb b a ≡ true) × (b ≡ a)) ⊎ ((eqb b a ≡ false) × (b ≢ a)) → eqb b a ≡ false
    flipped a b apart (inl d) = absurd (apart (sym d.1))
    flipped a b apart (inr d) = d.0

    at : (g u : ℕ) → ((eqb g h ≡ true) × (g ≡ h)) ⊎ ((eqb g h ≡ false) × (g ≢ h)) → ((eqb u t ≡ true) × (u ≡ t)) ⊎ ((eqb u t ≡ false) × (u ≢ t))
        → has (list_at lists' g) u ≡ is_parked_on g (status_at (set tasks t (Parked h)) u)
    at g u (inl d) (inl e) =
        ap (λ (ts : List ℕ). has ts u) (here g d.1) ∙ ap (λ b. b || has (list_at lists h) u) (ap (eqb t) e.1 ∙ same_test t)
        ∙ sym (status g u e.1 ∙ ap (eqb h) d.1 ∙ same_test h)
    at g u (inl d) (inr e) =
        ap (λ (ts : List ℕ). has ts u) (here g d.1) ∙ ap (λ b. b || has (list_at lists h) u) (flipped u t e.1 (eqb_tells t u))
        ∙ waiting.parked h u ∙ ap (λ (n : ℕ). is_parked_on n (status_at tasks u)) (sym d.1) ∙ sym (other g u e.1)
    at g u (inr d) (inl e) =
        ap (λ (ts : List ℕ). has ts u) (list_at-other lists h g (t ∷ list_at lists h) d.1) ∙ waiting.parked g u ∙ ap (λ (n : ℕ). is_parked_on g (status_at tasks n)) e.1 ∙ was g
        ∙ sym (status g u e.1 ∙ flipped g h d.1 (eqb_tells h g))
    at g u (inr d) (inr e) =
        ap (λ (ts : List ℕ). has ts u) (list_at-other lists h g (t ∷ list_at lists h) d.1) ∙ waiting.parked g u ∙ sym (other g u e.1)

    counts : (g : ℕ) → count_by (is_parked_on g) (set tasks t (Parked h)) + 0 ≡ count_by (is_parked_on g) tasks + cond (eqb h g) 1 0
    counts g = (λ k. count_by (is_parked_on g) (set tasks t (Parked h)) + cond (sym (was g) k) 1 0) ∙ count-set (is_parked_on g) tasks t (Parked h) lt

    fewer : (g : ℕ) → ((eqb g h ≡ true) × (g ≡ h)) ⊎ ((eqb g h ≡ false) × (g ≢ h)) → length (list_at lists' g) ≤ count_by (is_parked_on g) (set tasks t (Parked h))
    fewer g (inl d) =
        let long : length (list_at lists' g) ≡ suc (length (list_at lists g)) = ap (λ (ts : List ℕ). length ts) (here g d.1 ∙ ap (λ (n : ℕ). t ∷ list_at lists n) (sym d.1)) in
        let more : count_by (is_parked_on g) (set tasks t (Parked h)) + 0 ≡ count_by (is_parked_on g) tasks + 1 = counts g ∙ ap (λ b. count_by (is_parked_on g) tasks + cond b 1 0) (ap (eqb h) d.1 ∙ same_test h) in
        let before = waiting.once g in omega (arith, long, more, before)
    fewer g (inr d) =
        let long : length (list_at lists' g) ≡ length (list_at lists g) = ap (λ (ts : List ℕ). length ts) (list_at-other lists h g (t ∷ list_at lists h) d.1) in
        let more = counts g in let before = waiting.once g in omega (arith, long, more, before)

-- ---- a task is done

same_statuses : (xs ys : List Status) → length xs ≡ length ys → ((u : ℕ) → status_at xs u ≡ status_at ys u) → xs ≡ ys
same_statuses xs ys long same = same_lists xs ys long (λ k d lt. get_or_default xs k d Done lt ∙ same k ∙ get_or_default ys k Done d (omega arith))

pub length-with_ready : (ts : List ℕ) (tasks : List Status) → length (with_ready ts tasks) ≡ length tasks
length-with_ready [] tasks = refl
length-with_ready (t ∷ ts) tasks = length-with_ready ts (set tasks t Ready) ∙ length-set tasks t Ready

at_ready : (ts : List ℕ) (tasks : List Status) (u : ℕ) → AreBelow ts (length tasks) → status_at (with_ready ts tasks) u ≡ cond (has ts u) Ready (status_at tasks u)
at_ready [] tasks u below = refl
at_ready (t ∷ ts) tasks u below =
    at_ready ts (set tasks t Ready) u (λ v is. subst (λ (n : ℕ). v < n) (sym (length-set tasks t Ready)) (below v (later (eqb t v) (has ts v) is)))
    ∙ one (eqb_tells t u) (has ts u)
  where
    later : (a b : Bool) → b ≡ true → (a || b) ≡ true
    later true b is = refl
    later false b is = is

    one : ((eqb t u ≡ true) × (t ≡ u)) ⊎ ((eqb t u ≡ false) × (t ≢ u)) → (b : Bool) → cond b Ready (status_at (set tasks t Ready) u) ≡ cond (eqb t u || b) Ready (status_at tasks u)
    one (inl d) true = ap (λ a. cond (a || true) Ready (status_at tasks u)) (sym d.0)
    one (inl d) false =
        ap (status_at (set tasks t Ready)) (sym d.1) ∙ at_set tasks t Ready (below t (ap (λ a. a || has ts t) (same_test t)))
        ∙ ap (λ a. cond (a || false) Ready (status_at tasks u)) (sym d.0)
    one (inr d) true = ap (λ a. cond (a || true) Ready (status_at tasks u)) (sym d.0)
    one (inr d) false = at_other tasks t u Ready (λ e. d.1 (sym e)) ∙ ap (λ a. cond (a || false) Ready (status_at tasks u)) (sym d.0)

woken-is : (t : ℕ) (s : Status) → cond (is_parked_on t s) Ready s ≡ woken t s
woken-is t Ready = refl
woken-is t Handed = refl
woken-is t Out = refl
woken-is t (Parked g) = refl
woken-is t Done = refl

-- a list has tasks that there are
pub list-below : (tasks : List Status) (lists : List (List ℕ)) (h : ℕ) → AreWaiting tasks lists → AreBelow (list_at lists h) (length tasks)
list-below tasks lists h waiting u is = inside (is_parked_on h) tasks u refl (sym (waiting.parked h u) ∙ is)

pub ready_is_woken : (tasks : List Status) (lists : List (List ℕ)) (t : ℕ) → AreWaiting tasks lists → with_ready (list_at lists t) tasks ≡ map (woken t) tasks
ready_is_woken tasks lists t waiting =
    same_statuses (with_ready (list_at lists t) tasks) (map (woken t) tasks)
    (length-with_ready (list_at lists t) tasks ∙ sym (length-map tasks (woken t)))
    (λ u. at_ready (list_at lists t) tasks u (list-below tasks lists t waiting) ∙ ap (λ b. cond b Ready (status_at tasks u)) (waiting.parked t u) ∙ woken-is t (status_at tasks u) ∙ sym (at_woken t tasks u))

woken-free : (t : ℕ) (s : Status) → is_parked_on t (woken t s) ≡ false
woken-free t Ready = refl
woken-free t Handed = refl
woken-free t Out = refl
woken-free t Done = refl
woken-free t (Parked g) = by (eqb g t) refl
  where
    by : (b : Bool) → eqb g t ≡ b → is_parked_on t (cond b Ready (Parked g)) ≡ false
    by true e = refl
    by false e = e

woken-others : (t h : ℕ) → h ≢ t → (s : Status) → is_parked_on h (woken t s) ≡ is_parked_on h s
woken-others t h apart Ready = refl
woken-others t h apart Handed = refl
woken-others t h apart Out = refl
woken-others t h apart Done = refl
woken-others t h apart (Parked g) = by (eqb_tells g t) (eqb_tells g h)
  where
    by : ((eqb g t ≡ true) × (g ≡ t)) ⊎ ((eqb g t ≡ false) × (g ≢ t)) → ((eqb g h ≡ true) × (g ≡ h)) ⊎ ((eqb g h ≡ false) × (g ≢ h)) → is_parked_on h (cond (eqb g t) Ready (Parked g)) ≡ eqb g h
    by (inl d) (inl e) = absurd (apart (sym e.1 ∙ d.1))
    by (inl d) (inr e) = ap (λ b. is_parked_on h (cond b Ready (Parked g))) d.0 ∙ sym e.0
    by (inr d) e = ap (λ b. is_parked_on h (cond b Ready (Parked g))) d.0

pub waiting-woken : (tasks : List Status) (lists : List (List ℕ)) (t : ℕ) → AreWaiting tasks lists → t < length lists → AreWaiting (map (woken t) tasks) (set lists t [])
waiting-woken tasks lists t waiting lt = record {
  small = let small = waiting.small in omega (arith, length-map tasks (woken t));
  count = length-set lists t [] ∙ waiting.count ∙ sym (length-map tasks (woken t));
  parked = λ h u. at h u (eqb_tells h t);
  once = λ h. fewer h (eqb_tells h t);
}
  where
    empty : (h : ℕ) → h ≡ t → list_at (set lists t []) h ≡ []
    empty h same = ap (list_at (set lists t [])) same ∙ list_at-set lists t [] lt

    at : (h u : ℕ) → ((eqb h t ≡ true) × (h ≡ t)) ⊎ ((eqb h t ≡ false) × (h ≢ t)) → has (list_at (set lists t []) h) u ≡ is_parked_on h (status_at (map (woken t) tasks) u)
    at h u (inl d) =
        ap (λ (ts : List ℕ). has ts u) (empty h d.1)
        ∙ sym (ap (is_parked_on h) (at_woken t tasks u) ∙ ap (λ (n : ℕ). is_parked_on n (woken t (status_at tasks u))) d.1 ∙ woken-free t (status_at tasks u))
    at h u (inr d) =
        ap (λ (ts : List ℕ). has ts u) (list_at-other lists t h [] d.1) ∙ waiting.parked h u
        ∙ sym (ap (is_parked_on h) (at_woken t tasks u) ∙ woken-others t h d.1 (status_at tasks u))

    fewer : (h : ℕ) → ((eqb h t ≡ true) × (h ≡ t)) ⊎ ((eqb h t ≡ false) × (h ≢ t)) → length (list_at (set lists t []) h) ≤ count_by (is_parked_on h) (map (woken t) tasks)
    fewer h (inl d) = let none : length (list_at (set lists t []) h) ≡ 0 = ap (λ (ts : List ℕ). length ts) (empty h d.1) in omega (arith, none)
    fewer h (inr d) =
        let long : length (list_at (set lists t []) h) ≡ length (list_at lists h) = ap (λ (ts : List ℕ). length ts) (list_at-other lists t h [] d.1) in
        let same = count-map (is_parked_on h) (woken t) tasks (woken-others t h d.1) in
        let before = waiting.once h in omega (arith, long, same, before)

-- a list is no longer than the tasks
pub list-fits : (tasks : List Status) (lists : List (List ℕ)) (h : ℕ) → AreWaiting tasks lists → length (list_at lists h) ≤ 8192
list-fits tasks lists h waiting = let once = waiting.once h in let small = waiting.small in omega (arith, once, small, count_by-le-length (is_parked_on h) tasks)

-- ---- the calls

-- a ready task is taken, or handed
pub ready-waiting : (tasks : List Status) (lists : List (List ℕ)) (t : ℕ) (v : Status) → AreWaiting tasks lists → is_ready (status_at tasks t) ≡ true → IsFree v → AreWaiting (set tasks t v) lists
ready-waiting tasks lists t v waiting ready free = waiting-set tasks lists t v waiting (inside is_ready tasks t refl ready) (ready-free (status_at tasks t) ready) free

pub unhanded-waiting : (tasks : List Status) (lists : List (List ℕ)) (t : ℕ) (v : Status) → AreWaiting tasks lists → is_unhanded (status_at tasks t) ≡ true → IsFree v → AreWaiting (set tasks t v) lists
unhanded-waiting tasks lists t v waiting unhanded free = waiting-set tasks lists t v waiting (inside is_unhanded tasks t refl unhanded) (ready-free (status_at tasks t) (unhanded-ready (status_at tasks t) unhanded)) free

-- one that is out is ready again, or done
pub out-waiting : (tasks : List Status) (lists : List (List ℕ)) (t : ℕ) (v : Status) → AreWaiting tasks lists → is_out (status_at tasks t) ≡ true → IsFree v → AreWaiting (set tasks t v) lists
out-waiting tasks lists t v waiting out free = waiting-set tasks lists t v waiting (inside is_out tasks t refl out) (out-free (status_at tasks t) out) free

pub out-parks : (tasks : List Status) (lists : List (List ℕ)) (t h : ℕ) → AreWaiting tasks lists → is_out (status_at tasks t) ≡ true → h < t → AreWaiting (set tasks t (Parked h)) (set lists h (t ∷ list_at lists h))
out-parks tasks lists t h waiting out small =
    let lt = inside is_out tasks t refl out in
    waiting-park tasks lists t h waiting lt (let count = waiting.count in omega (arith, count, lt, small)) (out-free (status_at tasks t) out)

pub done-wakes : (tasks : List Status) (lists : List (List ℕ)) (t : ℕ) → AreWaiting tasks lists → is_out (status_at tasks t) ≡ true → with_ready (list_at lists t) (set tasks t Done) ≡ with_done tasks t
done-wakes tasks lists t waiting out = ready_is_woken (set tasks t Done) lists t (out-waiting tasks lists t Done waiting out (λ h. refl))

pub done-waiting : (tasks : List Status) (lists : List (List ℕ)) (t : ℕ) → AreWaiting tasks lists → is_out (status_at tasks t) ≡ true → AreWaiting (with_done tasks t) (set lists t [])
done-waiting tasks lists t waiting out =
    waiting-woken (set tasks t Done) lists t (out-waiting tasks lists t Done waiting out (λ h. refl))
    (let lt = inside is_out tasks t refl out in let count = waiting.count in omega (arith, count, lt))

-- ---- a new desk

pub new-waiting : (n : ℕ) (tasks : List Status) (lists : List (List ℕ)) → n ≤ 8192 → tasks ≡ replicate n Ready → lists ≡ replicate n [] → AreWaiting tasks lists
new-waiting n tasks lists small is_tasks is_lists = record {
  small = omega (arith, long);
  count = ap (λ (ls : List (List ℕ)). length ls) is_lists ∙ length-replicate {A = List ℕ} n [] ∙ sym long;
  parked = λ h t. ap (λ (ls : List (List ℕ)). has (list_at ls h) t) is_lists ∙ ap (λ (ts : List ℕ). has ts t) (empty_at n h) ∙ sym (ap (λ (ts : List Status). is_parked_on h (status_at ts t)) is_tasks ∙ free h t (ready_or_done n t));
  once = λ h. let none : length (list_at lists h) ≡ 0 = ap (λ (ls : List (List ℕ)). length (list_at ls h)) is_lists ∙ ap (λ (ts : List ℕ). length ts) (empty_at n h) in omega (arith, none);
}
  where
    long : length tasks ≡ n
    long = ap (λ (ts : List Status). length ts) is_tasks ∙ length-replicate n Ready

    free : (h t : ℕ) → (status_at (replicate n Ready) t ≡ Ready) ⊎ (status_at (replicate n Ready) t ≡ Done) → is_parked_on h (status_at (replicate n Ready) t) ≡ false
    free h t (inl e) = ap (is_parked_on h) e
    free h t (inr e) = ap (is_parked_on h) e
