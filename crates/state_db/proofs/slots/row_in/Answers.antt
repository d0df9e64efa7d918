use Rattle.state_db.proofs.Order.{falls_sorted}
use Rattle.state_db.proofs.slots.row_in.Goals as goal

pub count_below-place-requires : goal.count_below-place-requires
count_below-place-requires c = falls_sorted c.args.wanted.now c.args.rows.now c.requires
