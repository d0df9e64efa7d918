use Rattle.std.proofs.Common.{refl}
use Rattle.reasons.specs.Shortfall.{wide_last}
use Rattle.reasons.proofs.Reordered.{reordered, asks_last}
use Rattle.reasons.proofs.laws.another_order_asks_any_role_last.Goals as goal

pub returns : goal.returns
returns c = λ policy endorsements signers. (wide_last policy, reordered policy, asks_last policy, refl)
