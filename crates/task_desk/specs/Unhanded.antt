-- The tasks that weren't handed: all from one on, and others before it. No public contract cites this.
use Rattle.std.specs.Prelude.{◌≡◌, ℕ, ◌+◌, ◌<◌, ◌≤◌, Bool, true, false, nat_lt, if◌then◌else◌, List, length, map}
use Rattle.std.specs.List.{range_with_len}
use Rattle.task_desk.specs.Bits.{IsEmpty}
use Rattle.task_desk.specs.Groups.{is_member}

abbrev pub is_shown : List Bool → ℕ → ℕ → Bool
is_shown others fresh k = if nat_lt k fresh then is_member others k else true

abbrev pub with_fresh : List Bool → ℕ → List Bool
with_fresh others fresh = map (is_shown others fresh) (range_with_len 0 (length others))

pub record AreBefore (others : List Bool) (fresh count : ℕ) (has_others : Bool) : Type 0 where
  pub small : count ≤ 8192
  pub all : length others ≡ count
  pub bound : fresh ≤ count
  pub before : (k : ℕ) → fresh ≤ k → is_member others k ≡ false
  pub none : has_others ≡ false → IsEmpty others

-- those from one to before another are put in, and no others
pub record IsRunPut (old : List Bool) (from end : ℕ) (new : List Bool) : Type 0 where
  pub all : length new ≡ length old
  pub below : (k : ℕ) → k < from → is_member new k ≡ is_member old k
  pub inside : (k : ℕ) → from ≤ k → k < end → is_member new k ≡ true
  pub above : (k : ℕ) → end ≤ k → is_member new k ≡ is_member old k

-- the least of them, and some right behind it; none where there are none
pub record IsFirstRun (members : List Bool) (most from end : ℕ) : Type 0 where
  pub order : from ≤ end
  pub size : end ≤ from + most
  pub all : end ≤ length members
  pub are : (k : ℕ) → from ≤ k → k < end → is_member members k ≡ true
  pub least : from < end → (k : ℕ) → k < from → is_member members k ≡ false
  pub none : from ≡ end → IsEmpty members
