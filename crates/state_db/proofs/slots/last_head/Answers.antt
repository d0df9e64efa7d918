use Rattle.std.proofs.Common.{sym, ◌∙◌, arith}
use Rattle.state_db.proofs.PageOrder.{no_last, its_head}
use Rattle.state_db.proofs.slots.last_head.Goals as goal

pub returns-in-None : goal.returns-in-None
returns-in-None c = no_last c.args.rows.now (omega (arith, c.in-None.ensures.item.3))

pub returns-in-Some : goal.returns-in-Some
returns-in-Some c = c.head.ensures ∙ sym (its_head c.args.rows.now c.in-Some.slot.now (omega (arith, c.in-Some.ensures.item.3.0)) c.in-Some.ensures.item.1)
