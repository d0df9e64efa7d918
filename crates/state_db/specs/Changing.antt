-- Which changes make a row differ, of changes in the order of their keys. No public contract cites this.
use Rattle.std.specs.Prelude.{Bool, not, List, [], ◌∷◌, if◌then◌else◌, Option}
use Rattle.std.specs.List.{filter}
use Rattle.std.specs.FinMap.{find}
use Rattle.rules.specs.declared.row.Row.{Row}
use Rattle.rules.specs.Differing.{is_unchanged}
use Rattle.rules.specs.State.{ChangeOf, key_cmp}
use Rattle.state_db.specs.Pages.{RowList}

abbrev pub is_changing : RowList → ChangeOf Row → Bool
is_changing rows c = not (is_unchanged (find key_cmp c.0 rows) c.1)

abbrev pub changing : RowList → List (ChangeOf Row) → List (ChangeOf Row)
changing rows cs = filter (is_changing rows) cs

-- a change of a key that had this row, if it makes it differ
abbrev pub if_changing : Option Row → ChangeOf Row → List (ChangeOf Row)
if_changing row c = if is_unchanged row c.1 then [] else c ∷ []
