-- The changes that make a row differ are the rows that differ once all are made.
use Rattle.std.proofs.Common.{◌≡◌, not, List, sym, ◌∙◌}
use Rattle.std.specs.List.{filter}
use Rattle.std.specs.FinMap.{from_sorted, get-from_sorted}
use Rattle.rules.specs.declared.row.Row.{Row}
use Rattle.rules.specs.Differing.{is_unchanged, differing}
use Rattle.rules.specs.State.{ChangeOf, key_cmp, with_changes}
use Rattle.rules.proofs.Differing.{differing-changed}
use Rattle.state_db.specs.Changing.{changing}
use Rattle.state_db.specs.Pages.{RowList}
use Rattle.state_db.specs.Search.{IsSorted}
use Rattle.state_db.proofs.Tests.{told}

pub changing_is : (rows : RowList) (cs : List (ChangeOf Row)) → IsSorted rows → IsSorted cs → changing rows cs ≡ differing (from_sorted rows) (with_changes (from_sorted rows) cs)
changing_is rows cs sorted also =
    (λ i. filter (λ c. not (is_unchanged (sym (get-from_sorted key_cmp rows c.0 (told _ sorted)) i) c.1)) cs)
    ∙ differing-changed (from_sorted rows) cs also
