use denote.Param.Send.{IsSync}
use Rattle.rules.proofs.Crossing.{crossing, policy_send, policy_sync}
use Rattle.state_keys.proofs.state_key.StateKey.TheSendSync as state_key
use Rattle.state_db.specs.contracts.state_db.StateDb as state
use Rattle.row_workers.proofs.looking_up.+halves.Goals as goal

state_sync : IsSync state.the_row
state_sync = search (crossing, policy_send, policy_sync) depth 40 fits 100000

pub join-first-requires-send-F : goal.join-first-requires-send-F
join-first-requires-send-F g t c κs within = search (crossing, state_sync, state_key.the_sync) depth 40 fits 100000
