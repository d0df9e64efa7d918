-- Runs of tasks: so many, from one on.
use Rattle.std.specs.Prelude.{◌≡◌, ℕ, zero, suc, ◌+◌, ◌<◌, ◌≤◌, true, false, if◌then◌else◌, List, slice_set}
use Rattle.task_desk.specs.declared.status.Status.{Status}
use Rattle.task_desk.specs.Status.{is_unhanded, is_out, status_at}
use Rattle.task_desk.specs.Desk.{NoneUnhanded, with_done}

-- each of a run becomes this
abbrev pub with_run : {A : Type 0} → A → List A → ℕ → ℕ → List A
with_run is tasks t zero = tasks
with_run is tasks t (suc n) = with_run is (slice_set tasks t is) (suc t) n

-- those of a run that are out are done, one after the other
abbrev pub with_run_done : List Status → ℕ → ℕ → List Status
with_run_done tasks t zero = tasks
with_run_done tasks t (suc n) = with_run_done (if is_out (status_at tasks t) then with_done tasks t else tasks) (suc t) n

-- the least task that is ready and wasn't handed since it became so, and some right behind it that are so too; no task where
-- there is none
pub record IsNextRun (tasks : List Status) (most from end : ℕ) : Type 0 where
  pub order : from ≤ end
  pub size : end ≤ from + most
  pub unhanded : (t : ℕ) → from ≤ t → t < end → is_unhanded (status_at tasks t) ≡ true
  pub least : from < end → (u : ℕ) → u < from → is_unhanded (status_at tasks u) ≡ false
  pub none : from ≡ end → NoneUnhanded tasks
