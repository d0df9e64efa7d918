-- Calls that take or end a run keep a desk and its wait lists.
use Rattle.std.proofs.Common.{◌≡◌, ℕ, zero, suc, ◌+◌, ◌-◌, ◌<◌, ◌≤◌, Bool, true, cond, List, [], set, refl, sym, ap, subst, ◌∙◌, add-one, arith}
use Rattle.task_desk.specs.declared.status.Status.{Status}
use Rattle.task_desk.specs.declared.status.Status.TheVariants.{Out, Done}
use Rattle.task_desk.specs.Status.{is_unhanded, is_out, status_at}
use Rattle.task_desk.specs.Desk.{with_done, IsDesk}
use Rattle.task_desk.specs.Runs.{with_run, with_run_done}
use Rattle.task_desk.specs.Waiting.{list_at, with_ready, AreWaiting}
use Rattle.task_desk.proofs.StatusAt.{at_other, inside}
use Rattle.task_desk.proofs.Keeping.{taken-desk, with_done-desk}
use Rattle.task_desk.proofs.Parking.{unhanded-ready, unhanded-waiting, out-waiting, done-wakes}

-- behind the first of a run the others are as they were
pub rest : (p : Status → Bool) (tasks : List Status) (t n : ℕ) (v : Status) → ((u : ℕ) → t ≤ u → u < t + suc n → p (status_at tasks u) ≡ true) → (u : ℕ) → suc t ≤ u → u < suc t + n → p (status_at (set tasks t v) u) ≡ true
rest p tasks t n v are u from to = ap p (at_other tasks t u v (λ e. absurd (omega (arith, e, from)))) ∙ are u (omega (arith, from)) (omega (arith, to))

pub taken-run : (tasks : List Status) (lists : List (List ℕ)) (t n : ℕ) → IsDesk tasks → AreWaiting tasks lists → ((u : ℕ) → t ≤ u → u < t + n → is_unhanded (status_at tasks u) ≡ true)
    → IsDesk (with_run Out tasks t n) × AreWaiting (with_run Out tasks t n) lists
taken-run tasks lists t zero desk waiting are = (desk, waiting)
taken-run tasks lists t (suc n) desk waiting are =
    let first = are t (omega arith) (omega arith) in
    taken-run (set tasks t Out) lists (suc t) n (taken-desk tasks t desk (unhanded-ready (status_at tasks t) first)) (unhanded-waiting tasks lists t Out waiting first (λ h. refl)) (rest is_unhanded tasks t n Out are)

-- a task is done where none waits
done-alone : (tasks : List Status) (lists : List (List ℕ)) (t : ℕ) → AreWaiting tasks lists → ((h : ℕ) → list_at lists h ≡ []) → is_out (status_at tasks t) ≡ true → with_done tasks t ≡ set tasks t Done
done-alone tasks lists t waiting none out = sym (done-wakes tasks lists t waiting out) ∙ ap (λ (ts : List ℕ). with_ready ts (set tasks t Done)) (none t)

pub done-run : (tasks : List Status) (lists : List (List ℕ)) (t n : ℕ) → IsDesk tasks → AreWaiting tasks lists → ((h : ℕ) → list_at lists h ≡ []) → ((u : ℕ) → t ≤ u → u < t + n → is_out (status_at tasks u) ≡ true)
    → (with_run Done tasks t n ≡ with_run_done tasks t n) × (IsDesk (with_run Done tasks t n) × AreWaiting (with_run Done tasks t n) lists)
done-run tasks lists t zero desk waiting none are = (refl, (desk, waiting))
done-run tasks lists t (suc n) desk waiting none are =
    let first : is_out (status_at tasks t) ≡ true = are t (omega arith) (omega arith) in
    let done = done-alone tasks lists t waiting none first in
    let further =
    done-run (set tasks t Done) lists (suc t) n (subst IsDesk done (with_done-desk tasks t desk (inside is_out tasks t refl first)))
    (out-waiting tasks lists t Done waiting first (λ h. refl)) none (rest is_out tasks t n Done are) in
    (further.0 ∙ sym (ap (λ (ts : List Status). with_run_done ts (suc t) n) (ap (λ b. cond b (with_done tasks t) tasks) first ∙ done)), further.1)

-- ---- one after the other

pub done-step : (tasks after : List Status) (t end : ℕ) → t < end → after ≡ cond (is_out (status_at tasks t)) (with_done tasks t) tasks → with_run_done after (t + 1) (end - (t + 1)) ≡ with_run_done tasks t (end - t)
done-step tasks after t end lt is =
    let left : end - t ≡ suc (end - (t + 1)) = omega (arith, lt) in
    sym (ap (with_run_done tasks t) left ∙ (λ k. with_run_done (sym is k) (sym (add-one t) k) (end - (t + 1))))

pub done-ends : (tasks : List Status) (t : ℕ) → with_run_done tasks t (t - t) ≡ tasks
done-ends tasks t = let none : t - t ≡ 0 = omega arith in ap (with_run_done tasks t) none

pub done-none : (tasks : List Status) (from end : ℕ) → end ≤ from → with_run_done tasks from (end - from) ≡ tasks
done-none tasks from end le = let none : end - from ≡ 0 = omega (arith, le) in ap (with_run_done tasks from) none
