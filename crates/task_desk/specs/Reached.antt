-- A desk for n transactions behind any calls, in any order.
use Rattle.std.specs.Prelude.{◌≡◌, ℕ, true, List}
use Rattle.task_desk.specs.declared.status.Status.{Status}
use Rattle.task_desk.specs.Status.{is_ready, is_unhanded, is_out, status_at}
use Rattle.task_desk.specs.Desk.{new_desk, with_out, with_handed, can_park, with_parked, with_done}

pub data IsReached (n : ℕ) : List Status → Type 0 where
  new : IsReached n (new_desk n)
  taken : {tasks : List Status} (t : ℕ) → IsReached n tasks → is_ready (status_at tasks t) ≡ true → IsReached n (with_out tasks t)
  handed : {tasks : List Status} (t : ℕ) → IsReached n tasks → is_unhanded (status_at tasks t) ≡ true → IsReached n (with_handed tasks t)
  parked : {tasks : List Status} (t h : ℕ) → IsReached n tasks → can_park tasks t h ≡ true → IsReached n (with_parked tasks t h)
  done : {tasks : List Status} (t : ℕ) → IsReached n tasks → is_out (status_at tasks t) ≡ true → IsReached n (with_done tasks t)
