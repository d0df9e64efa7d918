use Rattle.std.proofs.Common.{◌<◌, length, sym, ◌∙◌, arith}
use Rattle.state_db.proofs.Order.{falls_sorted}
use Rattle.state_db.proofs.Puts.{ties_in, tied_leads}
use Rattle.state_db.proofs.slots.place_from.Goals as goal

pub count_below-requires : goal.count_below-requires
count_below-requires c = falls_sorted c.args.wanted.now c.args.rows.now c.requires

pub returns-then-is_at-clause-place : goal.returns-then-is_at-clause-place
returns-then-is_at-clause-place c = tied_leads c.args.wanted.now c.args.rows.now c.args.guess c.requires (sym c.is_at.ensures ∙ c.if-is_at.true)

pub returns-then-is_at-clause-bound : goal.returns-then-is_at-clause-bound
returns-then-is_at-clause-bound c =
    let here : c.args.guess < length c.args.rows.now = ties_in c.args.wanted.now c.args.rows.now c.args.guess (sym c.is_at.ensures ∙ c.if-is_at.true) in
    omega (arith, here)
