use Rattle.world.proofs.Crossing.{crossing}
use Rattle.query.proofs.Crossing.{handle_send}
use Rattle.query_tests.proofs.threads.Watched.TheSendSync as watched
use Rattle.query_tests.proofs.threads.fn.height_behind_all.scope.Goals as goal

pub spawn-requires-send-F : goal.spawn-requires-send-F
spawn-requires-send-F g c κs = search (crossing, handle_send, watched.the_sync) depth 40 fits 100000
