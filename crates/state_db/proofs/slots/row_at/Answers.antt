use Rattle.std.proofs.Common.{sym, ap, ◌∙◌}
use Rattle.state_db.specs.Search.{if_it}
use Rattle.state_db.proofs.Order.{find_at, at_place-past, at_place-here}
use Rattle.state_db.proofs.slots.row_at.Goals as goal

pub returns-in-None : goal.returns-in-None
returns-in-None c = sym (find_at c.args.wanted.now c.args.rows.now c.requires.sorted ∙ at_place-past c.args.wanted.now c.args.rows.now c.args.place c.requires.place c.in-None.ensures.lookup.3)

pub returns-in-Some : goal.returns-in-Some
returns-in-Some c =
    let k = c.args.wanted.now in
    let es = c.args.rows.now in
    c.row_of.ensures
    ∙ ap (if_it k) c.in-Some.ensures.lookup.1
    ∙ sym (find_at k es c.requires.sorted ∙ at_place-here k es c.args.place c.in-Some.slot.now c.requires.place c.in-Some.ensures.lookup.3.0)
