-- For each task the tasks that wait for it, as lists that share one array of links. No public contract cites this.
use Rattle.std.specs.Prelude.{◌≡◌, ℕ, zero, suc, ◌≤◌, Bool, ◌==◌, List, [], ◌∷◌, length, slice_index, slice_index_or, slice_set, count_by}
use Rattle.std.specs.List.{list_any}
use Rattle.task_desk.specs.declared.status.Status.{Status}
use Rattle.task_desk.specs.declared.status.Status.TheVariants.{Ready}
use Rattle.task_desk.specs.Status.{status_at, is_parked_on}

-- so many tasks, from task t along the links
abbrev pub chain : List ℕ → ℕ → ℕ → List ℕ
chain next t zero = []
chain next t (suc count) = t ∷ chain next (slice_index next t) count

abbrev pub has : List ℕ → ℕ → Bool
has ts t = list_any (λ u. u == t) ts

abbrev pub list_at : List (List ℕ) → ℕ → List ℕ
list_at lists h = slice_index_or lists h []

-- the tasks of a list become ready
abbrev pub with_ready : List ℕ → List Status → List Status
with_ready [] tasks = tasks
with_ready (t ∷ ts) tasks = with_ready ts (slice_set tasks t Ready)

-- the list of a task has exactly those that are parked on it, and each once
pub record AreWaiting (tasks : List Status) (lists : List (List ℕ)) : Type 0 where
  pub small : length tasks ≤ 8192
  pub count : length lists ≡ length tasks
  pub parked : (h t : ℕ) → has (list_at lists h) t ≡ is_parked_on h (status_at tasks t)
  pub once : (h : ℕ) → length (list_at lists h) ≤ count_by (is_parked_on h) tasks
