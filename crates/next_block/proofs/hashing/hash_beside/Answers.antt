use Rattle.rules.proofs.Crossing.{crossing}
use Rattle.next_block.proofs.Crossing.{pending_sync}
use Rattle.next_block.proofs.hashing.hash_beside.Goals as goal

pub join_mut-requires-send-F : goal.join_mut-requires-send-F
join_mut-requires-send-F g c κs within = search (crossing, pending_sync) depth 40 fits 100000
