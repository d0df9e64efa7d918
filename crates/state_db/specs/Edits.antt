-- Changes of rows in order, one after the other. No public contract cites this.
use Rattle.std.specs.Prelude.{List, [], ◌∷◌, not, Some, None}
use Rattle.std.specs.Ordering.{eq_by_cmp}
use Rattle.std.specs.FinMap.Entries.{put, where_key}
use Rattle.rules.specs.declared.row.Row.{Row}
use Rattle.rules.specs.State.{StateKey, ChangeOf, key_cmp}
use Rattle.state_db.specs.Search.{Keyed}
use Rattle.state_db.specs.Pages.{RowList}

-- the rows without that of a key
abbrev pub without : {X : Type 0} → StateKey → List (Keyed X) → List (Keyed X)
without k es = where_key key_cmp (λ x. not (eq_by_cmp key_cmp k x)) es

abbrev pub edited_by : ChangeOf Row → RowList → RowList
edited_by (k, Some v) es = put key_cmp k v es
edited_by (k, None) es = without k es

abbrev pub edited : RowList → List (ChangeOf Row) → RowList
edited es [] = es
edited es (c ∷ cs) = edited (edited_by c es) cs
