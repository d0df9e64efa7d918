use Rattle.std.proofs.Common.{◌≡◌, ◌-◌, ◌<◌, length, suc, true, get_or, sym, ap, ◌∙◌, arith}
use Rattle.state_db.specs.Pages.{home, is_page_below}
use Rattle.state_db.proofs.PageOrder.{passed_home}
use Rattle.state_db.proofs.directory.home_near.Goals as goal

pub home_from-requires-clause-from : goal.home_from-requires-clause-from
home_from-requires-clause-from c =
    let k = c.args.wanted.now in
    let ps = c.args.pages.now in
    let n = c.args.guess - 1 in
    let d = c.index-pages-guess.result in
    let some : 0 < c.args.guess = omega (arith, c.if-guess-eq0.false) in
    let lt : suc n < length ps = omega (arith, some, c.if-guess-pages.false) in
    let below : is_page_below k (get_or ps n d) ≡ true = ap (is_page_below k) (sym c.index-pages-guess.is) ∙ sym c.is_below.ensures ∙ c.if-not-is_below.false in
    let passed : n < home k ps = passed_home k ps n d c.requires.pages lt below in
    omega (arith, some, passed)
