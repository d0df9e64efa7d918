-- What one change makes of pages. No public contract cites this.
use Rattle.std.specs.Prelude.{◌≡◌, ◌≤◌, ℕ, ◌+◌, true, List, [], ◌∷◌, Some, None, length, ⊤}
use Rattle.std.specs.declared.cmp.Ordering.TheVariants.{Less}
use Rattle.std.specs.FinMap.Entries.{put, below_all}
use Rattle.rules.specs.declared.row.Row.{Row}
use Rattle.rules.specs.State.{StateKey, ChangeOf, key_cmp}
use Rattle.state_db.specs.Pages.{RowList, joined, home, is_page_below}
use Rattle.state_db.specs.Edits.{without}
use Rattle.state_db.specs.Need.{need, AreOpen}
use Rattle.state_db.specs.Limits.{max_page_rows}

-- A row is put. What the stock of spare pages has lost, the need of all later changes has lost too.
pub record IsPut (k : StateKey) (v : Row) (old new : List RowList) (stock_old stock_new : ℕ) : Type 0 where
  pub open_ : AreOpen new
  pub rows : joined new ≡ put key_cmp k v (joined old)
  pub need_ : (cs : List (ChangeOf Row)) → below_all key_cmp k cs ≡ true → need new cs + stock_old ≤ need old ((k, Some v) ∷ cs) + stock_new

-- A key's row is removed, if it has one.
pub record IsRemoved (k : StateKey) (old new : List RowList) : Type 0 where
  pub open_ : AreOpen new
  pub rows : joined new ≡ without k (joined old)
  pub need_ : (cs : List (ChangeOf Row)) → below_all key_cmp k cs ≡ true → need new cs ≤ need old ((k, None) ∷ cs)

-- each key after this one belongs to the page at this place or after it
abbrev pub IsPassed : StateKey → List RowList → ℕ → Type 0
IsPassed k ps n = (x : StateKey) → key_cmp k x ≡ Less → n ≤ home x ps

-- and so do the keys of all these changes
abbrev pub ArePassed : List (ChangeOf Row) → List RowList → ℕ → Type 0
ArePassed [] ps n = ⊤
ArePassed (c ∷ cs) ps n = (n ≤ home c.0 ps) × ArePassed cs ps n

-- the key is after all rows, and the last page is full
abbrev pub IsBehindFull : StateKey → List RowList → Type 0
IsBehindFull k [] = ⊤
IsBehindFull k (p ∷ []) = (is_page_below k p ≡ true) × (length p ≡ max_page_rows)
IsBehindFull k (p ∷ q ∷ ps) = (is_page_below k p ≡ true) × IsBehindFull k (q ∷ ps)
