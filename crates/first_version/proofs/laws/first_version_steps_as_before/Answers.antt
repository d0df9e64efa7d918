use Rattle.std.proofs.Common.{refl}
use Rattle.rules.specs.World.{empty_world}
use Rattle.first_version.proofs.AsBefore.{step_as_before, chain_as_before}
use Rattle.first_version.proofs.laws.first_version_steps_as_before.Goals as goal

pub returns-clause-step : goal.returns-clause-step
returns-clause-step c = step_as_before

pub returns-clause-chain : goal.returns-clause-chain
returns-clause-chain c = λ channel new submissions answers each chain. chain_as_before channel submissions answers (empty_world channel.definitions) new refl refl each chain
