-- Rows in pages.
use Rattle.std.specs.Prelude.{◌<◌, ◌≤◌, ℕ, suc, Bool, true, List, [], ◌∷◌, ◌++◌, length, map, if◌then◌else◌, ⊤}
use Rattle.std.specs.FinMap.{from_sorted}
use Rattle.rules.specs.declared.row.Row.{Row}
use Rattle.rules.specs.State.{StateKey, State}
use Rattle.state_keys.specs.Head.{padded, head_of}
use Rattle.state_db.specs.Search.{Keyed, IsSorted, is_below}
use Rattle.state_db.specs.Limits.{max_page_rows}

-- a state, beside it how many rows each of its pages has
pub record PagedState : Type 0 where
  pub state : State
  pub sizes : List ℕ

-- ---- what follows isn't cited by a public contract

abbrev pub RowList : Type 0
RowList = List (Keyed Row)

-- the rows of all pages, in order
abbrev pub joined : List RowList → RowList
joined [] = []
joined (p ∷ ps) = p ++ joined ps

-- each page but the last has some rows
abbrev pub AreFilled : List RowList → Type 0
AreFilled [] = ⊤
AreFilled (p ∷ []) = ⊤
AreFilled (p ∷ q ∷ ps) = (0 < length p) × AreFilled (q ∷ ps)

-- each page has some rows, and no more than it may
abbrev pub AreSized : List RowList → Type 0
AreSized [] = ⊤
AreSized (p ∷ ps) = (0 < length p) × (length p ≤ max_page_rows) × AreSized ps

-- the rows are in order through all pages, of which each has some, but perhaps the last
abbrev pub AreInOrder : List RowList → Type 0
AreInOrder ps = IsSorted (joined ps) × AreFilled ps

abbrev pub ArePages : List RowList → Type 0
ArePages ps = IsSorted (joined ps) × AreSized ps

-- what a contract sees of pages
abbrev pub paged : List RowList → PagedState
paged ps = record { state = from_sorted (joined ps); sizes = map length ps }

-- ---- where a key belongs

-- the last row of the page is before the key
abbrev pub is_page_below : StateKey → RowList → Bool
is_page_below k [] = true
is_page_below k (e ∷ []) = is_below k e
is_page_below k (e ∷ f ∷ es) = is_page_below k (f ∷ es)

-- the page of a key: the first whose last row isn't before the key, or else the last page
abbrev pub home : StateKey → List RowList → ℕ
home k [] = 0
home k (p ∷ []) = 0
home k (p ∷ q ∷ ps) = if is_page_below k p then suc (home k (q ∷ ps)) else 0

-- the head of the last row, or zeros if there is none
abbrev pub last_head : RowList → List ℕ
last_head [] = padded 24 []
last_head (e ∷ []) = head_of e.0
last_head (e ∷ f ∷ es) = last_head (f ∷ es)
