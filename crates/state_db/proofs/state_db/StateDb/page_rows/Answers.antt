use Rattle.std.proofs.Common.{◌≡◌, ◌<◌, ◌≤◌, List, length, get_or, sym, ap, subst, ◌∙◌, arith}
use Rattle.state_db.specs.Pages.{RowList}
use Rattle.state_db.proofs.PageOrder.{size_at}
use Rattle.state_db.proofs.state_db.StateDb.page_rows.Goals as goal

pub returns-in-Some-clause-size : goal.returns-in-Some-clause-size
returns-in-Some-clause-size c =
    let ps = c.self.inside.pages.items in
    let p : RowList = c.in-Some.page.now in
    let lt : c.args.page < length ps = subst (λ (qs : List RowList). c.args.page < length qs) c.deref.ensures.value c.in-Some.ensures.lookup.3.0 in
    let is : p ≡ get_or ps c.args.page p = c.in-Some.ensures.lookup.1 ∙ ap (λ (qs : List RowList). get_or qs c.args.page p) c.deref.ensures.value in
    let size = size_at ps c.args.page p c.self.invariant.0.1 lt in
    let some : 0 < length p = subst (λ (x : RowList). 0 < length x) (sym is) size.0 in
    let most : length p ≤ 256 = subst (λ (x : RowList). length x ≤ 256) (sym is) size.1 in
    (omega arith, omega arith)
