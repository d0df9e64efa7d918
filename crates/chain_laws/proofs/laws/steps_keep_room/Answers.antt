use Rattle.chain_laws.proofs.Blocks.{empty_room, step_room, chain_room}
use Rattle.chain_laws.proofs.laws.steps_keep_room.Goals as goal

pub returns-clause-empty : goal.returns-clause-empty
returns-clause-empty c = empty_room

pub returns-clause-step : goal.returns-clause-step
returns-clause-step c = step_room

pub returns-clause-chain : goal.returns-clause-chain
returns-clause-chain c = chain_room
