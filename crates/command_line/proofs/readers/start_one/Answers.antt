use Rattle.std.proofs.result.Result.TheSendSync as result
use Rattle.world.proofs.Crossing.{crossing}
use Rattle.query.proofs.Crossing.{handle_send}
use Rattle.query.proofs.answers.QueryFault.TheSendSync as fault
use Rattle.command_line.proofs.readers.start_one.Goals as goal

pub spawn_with-requires-send-F : goal.spawn_with-requires-send-F
spawn_with-requires-send-F g c κs within = search (crossing, handle_send) depth 40 fits 100000

pub spawn_with-requires-send-T : goal.spawn_with-requires-send-T
spawn_with-requires-send-T g c κs within = search (crossing, result.the_send, fault.the_send, handle_send) depth 40 fits 100000
