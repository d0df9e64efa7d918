use Rattle.std.proofs.Common.{◌<◌, ℕ, length, get_or, sym, ap, subst, ◌∙◌, arith}
use Rattle.std.specs.FinMap.{find}
use Rattle.rules.specs.State.{key_cmp}
use Rattle.state_db.specs.Search.{IsSorted}
use Rattle.state_db.proofs.PageOrder.{sized_filled, page_sorted, find_home}
use Rattle.state_db.proofs.directory.row_near.Goals as goal

pub home_near-page-requires-clause-pages : goal.home_near-page-requires-clause-pages
home_near-page-requires-clause-pages c = (c.requires.0, sized_filled c.args.pages.now c.requires.1)

pub row-place-requires : goal.row-place-requires
row-place-requires c = subst IsSorted (sym c.index-pages-page.is) (page_sorted c.args.pages.now c.home_near-page.result c.index-pages-page.result c.requires.0 c.home_near-page.ensures.bound)

pub returns : goal.returns
returns c =
    let k = c.args.wanted.now in
    let ps = c.args.pages.now in
    let some : 0 < length ps = omega arith in
    c.row-place.ensures
    ∙ ap (find key_cmp k) c.index-pages-page.is
    ∙ sym (find_home k ps c.index-pages-page.result (c.requires.0, sized_filled ps c.requires.1) some ∙ ap (λ (n : ℕ). find key_cmp k (get_or ps n c.index-pages-page.result)) (sym c.home_near-page.ensures.place))
