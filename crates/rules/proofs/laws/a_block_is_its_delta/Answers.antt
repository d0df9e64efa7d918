use Rattle.rules.proofs.Deltas.{committed-is_delta, delta-is_committed}
use Rattle.rules.proofs.laws.a_block_is_its_delta.Goals as goal

pub returns-clause-world : goal.returns-clause-world
returns-clause-world c = committed-is_delta

pub returns-clause-delta : goal.returns-clause-delta
returns-clause-delta c = delta-is_committed
