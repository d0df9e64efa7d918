use Rattle.std.proofs.Common.{◌≤◌, ℕ, ◌+◌, List, drop, sym, ap, subst, ◌∙◌, arith}
use Rattle.state_db.specs.Search.{leading, Falls}
use Rattle.state_db.specs.Pages.{RowList, is_page_below}
use Rattle.state_db.proofs.Leading.{falls_drop, leading_drop}
use Rattle.state_db.proofs.PageOrder.{others, others-take, home-leading, home-lt, falls_pages}
use Rattle.state_db.proofs.directory.home_from.Goals as goal

pub count_few_below-requires : goal.count_few_below-requires
count_few_below-requires c =
    let k = c.args.wanted.now in
    let ps = c.args.pages.now in
    subst (λ (qs : List RowList). Falls (is_page_below k) qs) (sym (c.split_at-2.ensures.back ∙ ap (drop c.args.from) (c.split_at.ensures.front ∙ others-take ps)))
    (falls_drop (is_page_below k) c.args.from (others ps) (falls_pages k ps c.requires.pages))

pub returns-clause-place : goal.returns-clause-place
returns-clause-place c =
    let k = c.args.wanted.now in
    let ps = c.args.pages.now in
    let behind = c.count_few_below.ensures.place ∙ ap (leading (is_page_below k)) (c.split_at-2.ensures.back ∙ ap (drop c.args.from) (c.split_at.ensures.front ∙ others-take ps)) in
    let here : c.args.from ≤ leading (is_page_below k) (others ps) = omega (arith, home-leading k ps, c.requires.from) in
    ap (λ (n : ℕ). c.args.from + n) behind ∙ leading_drop (is_page_below k) c.args.from (others ps) here ∙ home-leading k ps

pub split_at-requires-2 : goal.split_at-requires-2
split_at-requires-2 c = let lt = home-lt c.args.wanted.now c.args.pages.now c.requires.some in omega (arith, lt)
