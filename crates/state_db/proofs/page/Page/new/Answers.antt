use Rattle.std.proofs.Common.{length, ap}
use Rattle.state_db.proofs.PageOrder.{no_last}
use Rattle.state_db.proofs.page.Page.new.Goals as goal

pub invariant_of-result : goal.invariant_of-result
invariant_of-result c = (no_last c.in_ok-with_capacity.field-0.items (ap length c.in_ok-with_capacity.ensures.items), c.in_ok-with_capacity.ensures.capacity)
