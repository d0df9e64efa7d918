use Rattle.std.proofs.Common.{◌≡◌, ◌<◌, true, false, get_or, sym, ap, ◌∙◌, arith}
use Rattle.state_db.specs.Search.{leading}
use Rattle.state_db.proofs.Leading.{leading-le, fails_at, passes_at}
use Rattle.state_db.proofs.search.count_few_below.Goals as goal

pub count_between-requires-clause-most : goal.count_between-requires-clause-most
count_between-requires-clause-most g c =
    let test = g.T.Ordered.is_below c.args.wanted.now in
    let n = c.loop-next.next in
    let d = c.index-items-next.result in
    let at : test (get_or c.args.items.now n d) ≡ false = ap test (sym c.index-items-next.is) ∙ sym c.is_below.ensures ∙ c.if-not-is_below.true in
    fails_at test c.args.items.now n d c.loop-next-test.true at

pub loop-next-preserved : goal.loop-next-preserved
loop-next-preserved g c =
    let test = g.T.Ordered.is_below c.args.wanted.now in
    let n = c.loop-next.next in
    let d = c.index-items-next.result in
    let at : test (get_or c.args.items.now n d) ≡ true = ap test (sym c.index-items-next.is) ∙ sym c.is_below.ensures ∙ c.if-not-is_below.false in
    let more : n < leading test c.args.items.now = passes_at test c.args.items.now n d c.requires c.loop-next-test.true at in
    record { passed = omega (arith, more) }

pub count_between-requires-2-clause-most : goal.count_between-requires-2-clause-most
count_between-requires-2-clause-most g c = leading-le (g.T.Ordered.is_below c.args.wanted.now) c.args.items.now

pub returns-then-not-is_below-clause-bound : goal.returns-then-not-is_below-clause-bound
returns-then-not-is_below-clause-bound g c = let most = leading-le (g.T.Ordered.is_below c.args.wanted.now) c.args.items.now in omega (arith, most, c.count_between.ensures)

pub returns-clause-bound : goal.returns-clause-bound
returns-clause-bound g c = let most = leading-le (g.T.Ordered.is_below c.args.wanted.now) c.args.items.now in omega (arith, most, c.count_between-2.ensures)
