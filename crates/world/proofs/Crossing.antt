-- A world may cross threads, and so may a delta. As of the rules, it goes part by part.
use denote.Param.Send.{IsSend, IsSync}
use Rattle.std.proofs.MapsCrossing as maps
use Rattle.values.proofs.key.Key.TheSendSync as key
use Rattle.rules.proofs.Crossing as rules
use Rattle.rules.proofs.Crossing.{policy_send, policy_sync, definitions_send, definitions_sync, new_definition_send, new_definition_sync, kept_entry_send, kept_entry_sync}
use Rattle.rules.proofs.committed.CommittedBlock.TheSendSync as committed
use Rattle.rules.proofs.delta.NewUse.TheSendSync as new_use
use Rattle.rules.specs.contracts.delta.Change as change
use Rattle.rules.specs.contracts.delta.Delta as delta
use Rattle.rules.specs.contracts.keyed_row.KeyedRow as keyed_row
use Rattle.rules.specs.contracts.row.Row as row
use Rattle.history_index.specs.contracts.index.HistoryIndex as history
use Rattle.state_db.specs.contracts.edit.Edit as edit
use Rattle.state_db.specs.contracts.state_db.StateDb as state
use Rattle.txid_index.proofs.ids.TxIds.TheSendSync as ids
use Rattle.world.specs.contracts.ready.ReadyDelta as ready
use Rattle.world.specs.contracts.world.World as world

pub ruleset crossing = (rules.crossing, key.the_send, key.the_sync)

pub row_send : IsSend row.the_row
row_send = search (crossing, policy_send, policy_sync) depth 40 fits 100000

pub row_sync : IsSync row.the_row
row_sync = search (crossing, policy_send, policy_sync) depth 40 fits 100000

pub keyed_row_send : IsSend keyed_row.the_row
keyed_row_send = search (crossing, policy_send, policy_sync) depth 40 fits 100000

pub keyed_row_sync : IsSync keyed_row.the_row
keyed_row_sync = search (crossing, policy_send, policy_sync) depth 40 fits 100000

state_send : IsSend state.the_row
state_send = search (crossing, policy_send, policy_sync) depth 40 fits 100000

state_sync : IsSync state.the_row
state_sync = search (crossing, policy_send, policy_sync) depth 40 fits 100000

history_send : IsSend history.the_row
history_send = search (crossing, maps.crosses, kept_entry_send, kept_entry_sync) depth 40 fits 100000

history_sync : IsSync history.the_row
history_sync = search (crossing, maps.crosses, kept_entry_send, kept_entry_sync) depth 40 fits 100000

pub world_send : IsSend world.the_row
world_send = search (crossing, state_send, history_send, ids.the_send, definitions_send, definitions_sync, committed.the_send, committed.the_sync) depth 40 fits 100000

pub world_sync : IsSync world.the_row
world_sync = search (crossing, state_sync, history_sync, ids.the_sync, definitions_send, definitions_sync, committed.the_send, committed.the_sync) depth 40 fits 100000

pub change_send : IsSend change.the_row
change_send = search (crossing, policy_send, policy_sync) depth 40 fits 100000

change_sync : IsSync change.the_row
change_sync = search (crossing, policy_send, policy_sync) depth 40 fits 100000

pub delta_send : IsSend delta.the_row
delta_send = search (crossing, change_send, kept_entry_send, kept_entry_sync, new_use.the_send, new_definition_send, committed.the_send, committed.the_sync) depth 40 fits 100000

pub delta_sync : IsSync delta.the_row
delta_sync = search (crossing, change_sync, kept_entry_send, kept_entry_sync, new_use.the_sync, new_definition_sync, committed.the_send, committed.the_sync) depth 40 fits 100000

pub edit_send : IsSend edit.the_row
edit_send = search (crossing, policy_send, policy_sync) depth 40 fits 100000

edit_sync : IsSync edit.the_row
edit_sync = search (crossing, policy_send, policy_sync) depth 40 fits 100000

-- what a delta with its batch is made of: the search takes a field's type apart once more, and then wants the parts
pub ruleset in_ready_deltas = (change_send, edit_send, kept_entry_send, kept_entry_sync, new_use.the_send, new_use.the_sync, new_definition_send, committed.the_send, committed.the_sync)

pub ready_delta_send : IsSend ready.the_row
ready_delta_send = search (crossing, in_ready_deltas) depth 40 fits 100000

pub ready_delta_sync : IsSync ready.the_row
ready_delta_sync = search (crossing, change_sync, edit_sync, kept_entry_send, kept_entry_sync, new_use.the_sync, new_definition_sync, committed.the_send, committed.the_sync) depth 40 fits 100000
