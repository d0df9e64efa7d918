-- Rows of the keys that a block writes, as far as valid transactions wrote them. No public contract cites this.
use Rattle.std.specs.Prelude.{◌≡◌, ℕ, Bool, true, ◌||◌, is_some, List, [], ◌∷◌, map, flat_map, Option, Some, None, option_map, unwrap_or, slice_get, slice_index_or}
use Rattle.std.specs.List.{zip}
use Rattle.std.specs.FinMap.{get}
use Rattle.rules.specs.declared.row.Row.{Row}
use Rattle.rules.specs.State.{StateKey, State, ChangeOf}
use Rattle.rules.specs.Job.{Job}
use Rattle.key_chains.specs.Job.{keys_of}

-- With the state before the block they are the rows that a state has at the keys that the block writes, each at its
-- key's place: if there is none, the row is the one before the block.
abbrev pub ShowRows : Job → List (Option (Option Row)) → State → Type 0
ShowRows j rows s = (n : ℕ) (k : StateKey) → slice_get (keys_of j) n ≡ Some k → unwrap_or (slice_index_or rows n None) (get j.state k) ≡ get s k

-- What a row is to the one before the block, which may be none: `None` if there is none and was none.
abbrev pub change_of_row : Option Row → Option Row → Option (Option Row)
change_of_row None None = None
change_of_row None (Some row) = Some (Some row)
change_of_row (Some before) row = Some row

-- a row is put, or one exists and is removed
abbrev pub is_real_row : Option Row → Option (Option Row) → Bool
is_real_row before None = true
is_real_row before (Some row) = is_some row || is_some before

-- and so at each key
abbrev pub AreRealRows : Job → List (Option (Option Row)) → Type 0
AreRealRows j rows = (n : ℕ) (k : StateKey) → slice_get (keys_of j) n ≡ Some k → is_real_row (get j.state k) (slice_index_or rows n None) ≡ true

-- the change of a key, if there is one
abbrev pub change_at : StateKey → Option (Option Row) → List (ChangeOf Row)
change_at k None = []
change_at k (Some row) = (k, row) ∷ []

abbrev pub changes_at : List StateKey → List (Option (Option Row)) → List (ChangeOf Row)
changes_at keys rows = flat_map (λ p. change_at p.1 p.0) (zip rows keys)

-- ---- with the keys that they are kept with

abbrev pub row_in : Option (Option (StateKey × Row)) → Option (Option Row)
row_in w = option_map (option_map (λ p. p.1)) w

abbrev pub rows_in : List (Option (Option (StateKey × Row))) → List (Option (Option Row))
rows_in ws = map row_in ws

-- the row, if there is one, has this key
abbrev pub HasKey : StateKey → Option (StateKey × Row) → Type 0
HasKey k row = option_map (λ p. p.0) row ≡ option_map (λ p. k) row

-- each one that was written has the key of its place
abbrev pub HaveKeys : List StateKey → List (Option (Option (StateKey × Row))) → Type 0
HaveKeys keys ws = (n : ℕ) (k : StateKey) (row : Option (StateKey × Row)) → slice_get keys n ≡ Some k → slice_index_or ws n None ≡ Some row → HasKey k row

-- the change of a key to a row that is kept with its key
abbrev pub change_to : StateKey → Option (StateKey × Row) → ChangeOf Row
change_to k None = (k, None)
change_to k (Some p) = (p.0, Some p.1)

abbrev pub kept_change_at : StateKey → Option (Option (StateKey × Row)) → List (ChangeOf Row)
kept_change_at k None = []
kept_change_at k (Some row) = change_to k row ∷ []

abbrev pub kept_changes_at : List StateKey → List (Option (Option (StateKey × Row))) → List (ChangeOf Row)
kept_changes_at keys ws = flat_map (λ p. kept_change_at p.1 p.0) (zip ws keys)
