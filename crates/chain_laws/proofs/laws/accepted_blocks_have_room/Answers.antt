use Rattle.chain_laws.proofs.Blocks.{linked_room, accepted_room}
use Rattle.chain_laws.proofs.laws.accepted_blocks_have_room.Goals as goal

pub returns-clause-linked : goal.returns-clause-linked
returns-clause-linked c = linked_room

pub returns-clause-accepted : goal.returns-clause-accepted
returns-clause-accepted c = accepted_room
