-- A handle and a publisher may go to another thread. They hold worlds, whose part stands in crate world.
use denote.Param.Send.{IsSend, IsSync}
use Rattle.atomic_table.proofs.send_lease.SendLease.TheSendSync as lease
use Rattle.atomic_table.proofs.shared.Seat.TheSendSync as seat
use Rattle.atomic_table.proofs.shared.Shared.TheSendSync as steps
use Rattle.left_right.proofs.part.Part.TheSendSync as part
use Rattle.left_right.proofs.part.Deed.TheSendSync as deed
use Rattle.logbook.proofs.word.Word.TheSendSync as word
use Rattle.rules.proofs.Crossing.{definitions_send, definitions_sync}
use Rattle.world.proofs.Crossing.{crossing, world_send, world_sync, in_ready_deltas}
use Rattle.query.proofs.front.Front.TheSendSync as front
use Rattle.query.specs.contracts.shown.Shown as shown
use Rattle.query.specs.contracts.shown.Operation as operation
use Rattle.query.specs.contracts.handle.QueryHandle as handle
use Rattle.query.specs.contracts.publisher.Publisher as publisher

ruleset ends = (
  crossing,
  front.the_send,
  front.the_sync,
  lease.the_send,
  lease.the_sync,
  seat.the_send,
  steps.the_send,
  steps.the_sync,
  part.the_send,
  part.the_sync,
  deed.the_send,
  word.the_send,
)

shown_send : IsSend shown.the_row
shown_send = search (crossing, front.the_send, world_send) depth 40 fits 100000

shown_sync : IsSync shown.the_row
shown_sync = search (crossing, front.the_sync, world_sync) depth 40 fits 100000

operation_send : IsSend operation.the_row
operation_send = search (crossing, front.the_send, in_ready_deltas, definitions_send, definitions_sync) depth 40 fits 100000

pub handle_send : IsSend handle.the_row
handle_send = search (ends, shown_sync) depth 40 fits 100000

pub publisher_send : IsSend publisher.the_row
publisher_send = search (ends, shown_send, shown_sync, operation_send) depth 40 fits 100000
