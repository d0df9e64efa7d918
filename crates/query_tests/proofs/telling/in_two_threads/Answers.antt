use Rattle.world.proofs.Crossing.{crossing}
use Rattle.query.proofs.Crossing.{handle_send}
use Rattle.query_tests.proofs.telling.in_two_threads.Goals as goal

pub join-requires-send-F : goal.join-requires-send-F
join-requires-send-F g c κs within = search (crossing, handle_send) depth 40 fits 100000
