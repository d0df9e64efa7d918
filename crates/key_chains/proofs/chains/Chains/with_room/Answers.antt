use Rattle.std.proofs.Common.{ap, length}
use Rattle.key_chains.proofs.Beginning.{begins}
use Rattle.key_chains.proofs.chains.Chains.with_room.Goals as goal

pub returns : goal.returns
returns c cs keys =
    begins cs _ (length c.as_slice-count.result.now) keys (ap length c.as_slice-count.ensures) c.in_ok-with_capacity.ensures c.in_ok-with_capacity-2.ensures c.in_ok-with_capacity-3.ensures.items c.in_ok-with_capacity-4.ensures.items c.in_ok-with_capacity-5.ensures.items c.in_ok-with_capacity-6.ensures.items c.in_ok-with_capacity-7.ensures.items
