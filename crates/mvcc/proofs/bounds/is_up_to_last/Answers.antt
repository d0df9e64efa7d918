use Rattle.std.proofs.Common.{ap, ◌∙◌}
use Rattle.std.specs.Ordering.{is_le}
use Rattle.rules.specs.Ranges.{is_up_to}
use Rattle.mvcc.proofs.LastResult.{last_is}
use Rattle.mvcc.proofs.bounds.is_up_to_last.Goals as goal

pub returns-in-None : goal.returns-in-None
returns-in-None c = ap (is_up_to c.args.key.now) (c.in-None.ensures ∙ last_is c.args.range.now.results)

pub returns-in-Some : goal.returns-in-Some
returns-in-Some c = c.is_le.ensures ∙ ap is_le c.order.ensures ∙ ap (is_up_to c.args.key.now) (c.in-Some.ensures ∙ last_is c.args.range.now.results)
