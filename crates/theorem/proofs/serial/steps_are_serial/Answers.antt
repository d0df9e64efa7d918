use Rattle.theorem.proofs.Steps.{answer_same, world_same, step_there, step_back, chain_there, chain_back}
use Rattle.theorem.proofs.serial.steps_are_serial.Goals as goal

pub returns-clause-answer : goal.returns-clause-answer
returns-clause-answer c = answer_same

pub returns-clause-ledger : goal.returns-clause-ledger
returns-clause-ledger c = world_same

pub returns-clause-step : goal.returns-clause-step
returns-clause-step c = step_there

pub returns-clause-step_back : goal.returns-clause-step_back
returns-clause-step_back c = step_back

pub returns-clause-chain : goal.returns-clause-chain
returns-clause-chain c = chain_there

pub returns-clause-chain_back : goal.returns-clause-chain_back
returns-clause-chain_back c = chain_back
