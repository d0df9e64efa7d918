-- A desk of tasks, and what each call makes of it.
use Rattle.std.specs.Prelude.{◌≡◌, ℕ, ◌*◌, ◌<◌, Bool, true, false, ◌==◌, ◌&&◌, nat_lt, if◌then◌else◌, List, map, replicate, slice_set}
use Rattle.task_desk.specs.declared.status.Status.{Status}
use Rattle.task_desk.specs.declared.status.Status.TheVariants.{Ready, Handed, Out, Parked, Done}
use Rattle.task_desk.specs.Status.{is_ready, is_unhanded, is_out, is_done, status_at}

-- two tasks for each transaction, ready
abbrev pub new_desk : ℕ → List Status
new_desk n = replicate (2 * n) Ready

-- task t is taken, or handed
abbrev pub with_out : List Status → ℕ → List Status
with_out tasks t = slice_set tasks t Out

abbrev pub with_handed : List Status → ℕ → List Status
with_handed tasks t = slice_set tasks t Handed

-- a task that is out can be parked on a smaller one
abbrev pub can_park : List Status → ℕ → ℕ → Bool
can_park tasks t h = is_out (status_at tasks t) && nat_lt h t

-- t waits for h, or is ready again where h is done
abbrev pub with_parked : List Status → ℕ → ℕ → List Status
with_parked tasks t h = slice_set tasks t (if is_done (status_at tasks h) then Ready else Parked h)

abbrev pub woken : ℕ → Status → Status
woken h (Parked g) = if g == h then Ready else Parked g
woken h status = status

-- t is done, and exactly the tasks parked on it become ready
abbrev pub with_done : List Status → ℕ → List Status
with_done tasks t = map (woken t) (slice_set tasks t Done)

abbrev pub NoneReady : List Status → Type 0
NoneReady tasks = (t : ℕ) → is_ready (status_at tasks t) ≡ false

abbrev pub NoneUnhanded : List Status → Type 0
NoneUnhanded tasks = (t : ℕ) → is_unhanded (status_at tasks t) ≡ false

-- t is ready, wasn't handed since it became so, and is the least such task
pub record IsNext (tasks : List Status) (t : ℕ) : Type 0 where
  pub unhanded : is_unhanded (status_at tasks t) ≡ true
  pub least : (u : ℕ) → u < t → is_unhanded (status_at tasks u) ≡ false

-- each parked task waits for a smaller one that isn't done
pub record IsDesk (tasks : List Status) : Type 0 where
  pub smaller : (t h : ℕ) → status_at tasks t ≡ Parked h → h < t
  pub undone : (t h : ℕ) → status_at tasks t ≡ Parked h → is_done (status_at tasks h) ≡ false
