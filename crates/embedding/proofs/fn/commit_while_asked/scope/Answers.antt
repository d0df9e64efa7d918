use Rattle.world.proofs.Crossing.{crossing}
use Rattle.query.proofs.Crossing.{handle_send}
use Rattle.embedding.proofs.fn.commit_while_asked.scope.Goals as goal

pub spawn-requires-send-F : goal.spawn-requires-send-F
spawn-requires-send-F g c κs = search (crossing, handle_send) depth 40 fits 100000
