use Rattle.rules.proofs.InOrder.{in_order-full}
use Rattle.rules.proofs.laws.checks_in_order_know_everything.Goals as goal

pub returns : goal.returns
returns c = in_order-full
