use Rattle.std.proofs.Common.{List, sym, ap, subst, ◌∙◌}
use Rattle.state_db.specs.Search.{leading, Falls}
use Rattle.state_db.specs.Pages.{RowList, is_page_below}
use Rattle.state_db.proofs.PageOrder.{others-take, home-leading, falls_pages}
use Rattle.state_db.proofs.directory.home_of.Goals as goal

pub count_below-requires : goal.count_below-requires
count_below-requires c =
    let k = c.args.wanted.now in
    subst (λ (ps : List RowList). Falls (is_page_below k) ps) (sym (c.split_at.ensures.front ∙ others-take c.args.pages.now)) (falls_pages k c.args.pages.now c.requires.pages)

pub returns-clause-place : goal.returns-clause-place
returns-clause-place c =
    let k = c.args.wanted.now in
    c.count_below.ensures.place
    ∙ ap (leading (is_page_below k)) (c.split_at.ensures.front ∙ others-take c.args.pages.now)
    ∙ home-leading k c.args.pages.now
