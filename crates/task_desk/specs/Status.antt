-- Where a task is. It is ready both before and after it was handed.
use Rattle.std.specs.Prelude.{ℕ, Bool, true, false, not, List, slice_index_or, ◌==◌}
use Rattle.task_desk.specs.declared.status.Status.{Status}
use Rattle.task_desk.specs.declared.status.Status.TheVariants.{Ready, Handed, Out, Parked, Done}

abbrev pub is_ready : Status → Bool
is_ready Ready = true
is_ready Handed = true
is_ready _ = false

abbrev pub is_unhanded : Status → Bool
is_unhanded Ready = true
is_unhanded _ = false

abbrev pub is_out : Status → Bool
is_out Out = true
is_out _ = false

abbrev pub is_done : Status → Bool
is_done Done = true
is_done _ = false

abbrev pub is_undone : Status → Bool
is_undone status = not (is_done status)

abbrev pub is_parked_on : ℕ → Status → Bool
is_parked_on h (Parked g) = g == h
is_parked_on h _ = false

-- a task that there isn't counts as done: no call changes it
abbrev pub status_at : List Status → ℕ → Status
status_at tasks t = slice_index_or tasks t Done
