-- What every desk has that calls reach.
use Rattle.std.proofs.Common.{◌≡◌, ℕ, zero, suc, ◌+◌, ◌*◌, ◌<◌, ◌≤◌, Bool, true, false, cond, List, length, set, refl, ◌∙◌, arith}
use Rattle.std.proofs.lemmas.List.{length-set, length-map, length-replicate}
use Rattle.task_desk.specs.declared.status.Status.{Status}
use Rattle.task_desk.specs.declared.status.Status.TheVariants.{Ready, Handed, Out, Parked, Done}
use Rattle.task_desk.specs.Status.{is_unhanded, is_out, is_done, status_at}
use Rattle.task_desk.specs.Desk.{woken, with_done, IsDesk}
use Rattle.task_desk.specs.Runs.{with_run, with_run_done}
use Rattle.task_desk.specs.Reached.{IsReached, new, taken, handed, parked, done}
use Rattle.task_desk.proofs.StatusAt.{inside}
use Rattle.task_desk.proofs.Parking.{unhanded-ready}
use Rattle.task_desk.proofs.RunCalls.{rest}
use Rattle.task_desk.proofs.Keeping.{new-desk, taken-desk, handed-desk, with_parked-desk, with_done-desk}

pub reached-desk : (n : ℕ) (tasks : List Status) → IsReached n tasks → IsDesk tasks
reached-desk n tasks new = new-desk n
reached-desk n tasks (taken {tasks = before} t r ready) = taken-desk before t (reached-desk n before r) ready
reached-desk n tasks (handed {tasks = before} t r unhanded) = handed-desk before t (reached-desk n before r) unhanded
reached-desk n tasks (parked {tasks = before} t h r can) = with_parked-desk before t h (reached-desk n before r) can
reached-desk n tasks (done {tasks = before} t r out) = with_done-desk before t (reached-desk n before r) (inside is_out before t refl out)

pub reached-length : (n : ℕ) (tasks : List Status) → IsReached n tasks → length tasks ≡ 2 * n
reached-length n tasks new = length-replicate {A = Status} (2 * n) Ready
reached-length n tasks (taken {tasks = before} t r ready) = length-set before t Out ∙ reached-length n before r
reached-length n tasks (handed {tasks = before} t r unhanded) = length-set before t Handed ∙ reached-length n before r
reached-length n tasks (parked {tasks = before} t h r can) = length-set before t (cond (is_done (status_at before h)) Ready (Parked h)) ∙ reached-length n before r
reached-length n tasks (done {tasks = before} t r out) = length-map (set before t Done) (woken t) ∙ length-set before t Done ∙ reached-length n before r

pub reached-taken-run : (n t count : ℕ) (tasks : List Status) → IsReached n tasks → ((u : ℕ) → t ≤ u → u < t + count → is_unhanded (status_at tasks u) ≡ true) → IsReached n (with_run Out tasks t count)
reached-taken-run n t zero tasks reached are = reached
reached-taken-run n t (suc count) tasks reached are =
    reached-taken-run n (suc t) count (set tasks t Out) (taken t reached (unhanded-ready (status_at tasks t) (are t (omega arith) (omega arith)))) (rest is_unhanded tasks t count Out are)

pub reached-done-run : (n t count : ℕ) (tasks : List Status) → IsReached n tasks → IsReached n (with_run_done tasks t count)
reached-done-run n t zero tasks reached = reached
reached-done-run n t (suc count) tasks reached = reached-done-run n (suc t) count (cond (is_out (status_at tasks t)) (with_done tasks t) tasks) (by (is_out (status_at tasks t)) refl)
  where
    by : (b : Bool) → is_out (status_at tasks t) ≡ b → IsReached n (cond b (with_done tasks t) tasks)
    by true out = done t reached out
    by false out = reached
