-- How many pages more changes of rows in pages may take. No public contract cites this.
use Rattle.std.specs.Prelude.{◌≡◌, ◌<◌, ◌≤◌, ℕ, ◌+◌, ◌-◌, ◌/◌, not, List, [], ◌∷◌, length, is_some, if◌then◌else◌, ⊤}
use Rattle.std.specs.List.{filter}
use Rattle.rules.specs.declared.row.Row.{Row}
use Rattle.rules.specs.State.{ChangeOf}
use Rattle.state_db.specs.Search.{IsSorted}
use Rattle.state_db.specs.Pages.{RowList, joined, AreFilled, is_page_below}
use Rattle.state_db.specs.Limits.{max_page_rows}

-- rows that a change may add
abbrev pub added : ChangeOf Row → ℕ
added c = if is_some c.1 then 1 else 0

abbrev pub added_by : List (ChangeOf Row) → ℕ
added_by [] = 0
added_by (c ∷ cs) = added c + added_by cs

-- How often a page of this many rows is split, as each split of 257 leaves 128 and 129: not at all up to 256 rows.
abbrev pub splits : ℕ → ℕ
splits n = (n - 129) / 128

-- the changes after a page's rows, and the others, which fall to the page
abbrev pub past : RowList → List (ChangeOf Row) → List (ChangeOf Row)
past p cs = filter (λ c. is_page_below c.0 p) cs

abbrev pub up_to : RowList → List (ChangeOf Row) → List (ChangeOf Row)
up_to p cs = filter (λ c. not (is_page_below c.0 p)) cs

-- the splits of all pages. What is after all rows falls to the last page.
abbrev pub need : List RowList → List (ChangeOf Row) → ℕ
need [] cs = 0
need (p ∷ []) cs = splits (length p + added_by cs)
need (p ∷ q ∷ ps) cs = splits (length p + added_by (up_to p cs)) + need (q ∷ ps) (past p cs)

-- ---- pages between two changes

-- no more rows in each than a page may have
abbrev pub AreBounded : List RowList → Type 0
AreBounded [] = ⊤
AreBounded (p ∷ ps) = (length p ≤ max_page_rows) × AreBounded ps

-- there is a page, the rows are in order, and only the last page may be empty
pub record AreOpen (ps : List RowList) : Type 0 where
  pub some : 0 < length ps
  pub sorted : IsSorted (joined ps)
  pub filled : AreFilled ps
  pub bounded : AreBounded ps

-- empty pages
abbrev pub AreEmpty : List RowList → Type 0
AreEmpty [] = ⊤
AreEmpty (p ∷ ps) = (p ≡ []) × AreEmpty ps

-- the need if the first page counts as one of this many rows
abbrev pub cost : ℕ → List RowList → List (ChangeOf Row) → ℕ
cost n [] cs = 0
cost n (p ∷ []) cs = splits (n + added_by cs)
cost n (p ∷ q ∷ ps) cs = splits (n + added_by (up_to p cs)) + need (q ∷ ps) (past p cs)
