use Rattle.std.proofs.Common.{◌≡◌, Option, ap, subst, ◌∙◌, Bor}
use Rattle.std.specs.Prelude.{IfSome}
use Rattle.std.specs.Option.{option_copied}
use Rattle.std.specs.FinMap.{find, from_sorted, get, get-from_sorted}
use Rattle.rules.specs.declared.row.Row.{Row}
use Rattle.rules.specs.State.{key_cmp}
use Rattle.state_db.specs.Pages.{joined}
use Rattle.state_db.proofs.Tests.{told}
use Rattle.state_db.proofs.looked_up.row_from.Goals as goal
use Rattle.state_db.proofs.looked_up.row_from.Goals.{in-Some, in-None}

pub returns : goal.returns
returns c =
    let k = c.args.edit.now.0 in
    let es = joined c.args.pages.now in
    elim c.match-row_at.branch [
      | in-Some w ↦
          let found = subst (λ (o : Option (Option (Bor Row))). IfSome o (λ row. option_copied row ≡ get (from_sorted {R = key_cmp} es) k)) w.in-Some.is (c.row_at.ensures (from_sorted es) c.requires.rows) in
          ap (λ (o : Option (Bor Row)). option_copied o) w.row-is ∙ found ∙ get-from_sorted key_cmp es k (told _ c.requires.pages.0)
      | in-None w ↦
          ap (λ (o : Option (Bor Row)). option_copied o) w.row-is ∙ w.row_of-row.ensures ∙ (λ i. find key_cmp (w.wanted.ensures i) es)
    ]
