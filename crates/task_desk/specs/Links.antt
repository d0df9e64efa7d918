-- The lists of tasks as they are kept. No public contract cites this.
use Rattle.std.specs.Prelude.{◌≡◌, ℕ, ◌<◌, ◌≤◌, Bool, true, false, List, [], length, map}
use Rattle.task_desk.specs.declared.wait_lists.WaitList.{WaitList}
use Rattle.task_desk.specs.Waiting.{chain, has, list_at}

abbrev pub list_of : List ℕ → WaitList → List ℕ
list_of next list = chain next list.first list.count

-- a list has tasks below n alone
abbrev pub AreBelow : List ℕ → ℕ → Type 0
AreBelow ts n = (t : ℕ) → has ts t ≡ true → t < n

-- and so has each
pub record IsWithin (next : List ℕ) (lists : List WaitList) : Type 0 where
  pub links : length next ≡ length lists
  pub tasks : (g : ℕ) → AreBelow (list_at (map (list_of next) lists) g) (length next)

-- beside them stands whether there may be one that isn't empty
pub record AreKept (next : List ℕ) (lists : List WaitList) (has_waiting : Bool) : Type 0 where
  pub within : IsWithin next lists
  pub small : length lists ≤ 8192
  pub none : has_waiting ≡ false → (g : ℕ) → list_at (map (list_of next) lists) g ≡ []
