use Rattle.std.proofs.Common.{◌≡◌, ◌+◌, ◌<◌, ◌++◌, ℕ, suc, length, drop, get_or, sym, ap, subst, ◌∙◌, add-one, arith}
use Rattle.state_db.specs.Search.{IsSorted}
use Rattle.state_db.specs.Pages.{RowList, joined, AreSized}
use Rattle.state_db.specs.Ranges.{in_front, from_key}
use Rattle.state_db.proofs.Order.{falls_sorted}
use Rattle.state_db.proofs.PageOrder.{sized_filled, page_sorted}
use Rattle.state_db.proofs.FromKey.{from_leading, from_home, sized_drop}
use Rattle.state_db.proofs.rows.rows_from.Goals as goal

pub home_of-home-requires-clause-pages : goal.home_of-home-requires-clause-pages
home_of-home-requires-clause-pages c = (c.requires.0, sized_filled c.args.pages.now c.requires.1)

pub count_below-requires : goal.count_below-requires
count_below-requires c =
    falls_sorted c.args.start.now c.rows-rows.result.now
    (subst IsSorted (sym (c.rows-rows.ensures ∙ c.index-pages-home.is)) (page_sorted c.args.pages.now c.home_of-home.result c.index-pages-home.result c.requires.0 c.home_of-home.ensures.bound))

pub invariant_of-result-2 : goal.invariant_of-result-2
invariant_of-result-2 c = subst AreSized (sym c.split_at-2.ensures.back) (sized_drop (c.home_of-home.result + 1) c.args.pages.now c.requires.1)

pub returns : goal.returns
returns c =
    let k = c.args.start.now in
    let ps = c.args.pages.now in
    let n = c.home_of-home.result in
    let d : RowList = c.index-pages-home.result in
    let some : 0 < length ps = omega arith in
    let rows : c.split_at.result.1.now ≡ from_key k (get_or ps n d) =
    c.split_at.ensures.back ∙ ap (λ (i : ℕ). drop i c.rows-rows.result.now) c.count_below.ensures.place ∙ from_leading k c.rows-rows.result.now ∙ ap (from_key k) (c.rows-rows.ensures ∙ c.index-pages-home.is) in
    let pages : c.split_at-2.result.1.now ≡ drop (suc n) ps = c.split_at-2.ensures.back ∙ ap (λ (i : ℕ). drop i ps) (add-one n) in
    ap (in_front c.args.namespace.now c.args.end.now)
    ((λ i. rows i ++ joined (pages i))
    ∙ ap (λ (m : ℕ). from_key k (get_or ps m d) ++ joined (drop (suc m) ps)) c.home_of-home.ensures.place
    ∙ sym (from_home k ps d (c.requires.0, sized_filled ps c.requires.1) some))
