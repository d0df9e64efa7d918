-- Which numbers below a count are in a set of words of 64 bits. No public contract cites this.
use Rattle.std.specs.Prelude.{◌≡◌, ℕ, ◌<◌, ◌≤◌, ◌*◌, ◌/◌, ◌%◌, Bool, true, false, ◌==◌, List, length, map, slice_index, slice_index_or}
use Rattle.std.specs.List.{range_with_len}
use Rattle.std.specs.Int.{bit_at}

abbrev pub is_set : List ℕ → ℕ → Bool
is_set words k = bit_at (slice_index words (k / 64)) (k % 64) == 1

abbrev pub members : List ℕ → ℕ → List Bool
members words count = map (is_set words) (range_with_len 0 count)

-- there are words for all, and none above the count is set
pub record HasWords (words : List ℕ) (count : ℕ) : Type 0 where
  pub few : length words ≤ 128
  pub enough : count ≤ 64 * length words
  pub none_above : (k : ℕ) → count ≤ k → is_set words k ≡ false

-- k is the least member
pub record IsLeast (members : List Bool) (k : ℕ) : Type 0 where
  pub member : slice_index_or members k false ≡ true
  pub least : (j : ℕ) → j < k → slice_index_or members j false ≡ false

abbrev pub IsEmpty : List Bool → Type 0
IsEmpty members = (k : ℕ) → slice_index_or members k false ≡ false
