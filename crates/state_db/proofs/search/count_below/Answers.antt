use Rattle.std.proofs.Common.{arith}
use Rattle.state_db.proofs.Leading.{leading-le}
use Rattle.state_db.proofs.search.count_below.Goals as goal

pub count_between-requires-clause-most : goal.count_between-requires-clause-most
count_between-requires-clause-most g c = leading-le (g.T.Ordered.is_below c.args.wanted.now) c.args.items.now

pub returns-clause-bound : goal.returns-clause-bound
returns-clause-bound g c = let most = leading-le (g.T.Ordered.is_below c.args.wanted.now) c.args.items.now in omega (arith, most, c.count_between.ensures)
