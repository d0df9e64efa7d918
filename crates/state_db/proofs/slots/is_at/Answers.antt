use Rattle.std.proofs.Common.{ap, ◌∙◌}
use Rattle.std.specs.Ordering.{is_eq}
use Rattle.state_db.proofs.Puts.{ties_past, ties_here}
use Rattle.state_db.proofs.slots.is_at.Goals as goal

pub returns-in-None : goal.returns-in-None
returns-in-None c = ties_past c.args.wanted.now c.args.rows.now c.args.place c.in-None.ensures.lookup.3

pub returns-in-Some : goal.returns-in-Some
returns-in-Some c =
    c.is_eq.ensures ∙ ap is_eq c.order.ensures
    ∙ ties_here c.args.wanted.now c.args.rows.now c.args.place c.in-Some.slot.now c.in-Some.ensures.lookup.3.0 c.in-Some.ensures.lookup.1
