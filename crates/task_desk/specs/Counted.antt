-- What is kept beside the statuses of tasks. No public contract cites this.
use Rattle.std.specs.Prelude.{◌≡◌, ℕ, ◌≤◌, Bool, List, length, map, count_by}
use Rattle.task_desk.specs.declared.status.Status.{Status}
use Rattle.task_desk.specs.Status.{is_unhanded, is_out, is_undone}

pub record IsCounted (tasks : List Status) (unhanded : List Bool) (out undone : ℕ) : Type 0 where
  pub small : length tasks ≤ 8192
  pub are_unhanded : unhanded ≡ map is_unhanded tasks
  pub are_out : out ≡ count_by is_out tasks
  pub are_undone : undone ≡ count_by is_undone tasks
