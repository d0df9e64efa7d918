-- A set of numbers in groups of 64, beside it which groups have a member. No public contract cites this.
use Rattle.std.specs.Prelude.{◌≡◌, ℕ, ◌<◌, ◌≤◌, ◌+◌, ◌*◌, ◌/◌, Bool, true, false, List, length, slice_index_or}

abbrev pub is_member : List Bool → ℕ → Bool
is_member members k = slice_index_or members k false

abbrev pub NoneIn : List Bool → ℕ → Type 0
NoneIn members group = (k : ℕ) → k / 64 ≡ group → is_member members k ≡ false

-- k is the least member of the group
pub record IsFirstIn (members : List Bool) (group k : ℕ) : Type 0 where
  pub place : k / 64 ≡ group
  pub member : is_member members k ≡ true
  pub least : (j : ℕ) → j < k → j / 64 ≡ group → is_member members j ≡ false

pub record IsIndexed (members filled : List Bool) : Type 0 where
  pub small : length members ≤ 8192
  pub enough : length members ≤ 64 * length filled
  pub no_more : 64 * length filled < length members + 64
  pub none : (group : ℕ) → is_member filled group ≡ false → NoneIn members group
  pub some : (group : ℕ) → is_member filled group ≡ true → (k : ℕ) × (k / 64 ≡ group) × (is_member members k ≡ true)
