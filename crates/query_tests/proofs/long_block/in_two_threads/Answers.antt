use Rattle.world.proofs.Crossing.{crossing}
use Rattle.query.proofs.Crossing.{handle_send}
use Rattle.query_tests.proofs.long_block.in_two_threads.Goals as goal

pub join-goes_on-requires-send-F : goal.join-goes_on-requires-send-F
join-goes_on-requires-send-F g c κs within = search (crossing, handle_send) depth 40 fits 100000
