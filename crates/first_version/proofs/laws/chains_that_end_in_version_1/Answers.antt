use Rattle.std.proofs.Common.{refl}
use Rattle.rules.specs.World.{empty_world}
use Rattle.first_version.proofs.Ending.{chain_back, chain_then}
use Rattle.first_version.proofs.laws.chains_that_end_in_version_1.Goals as goal

pub returns-clause-definitions : goal.returns-clause-definitions
returns-clause-definitions c = λ channel new submissions answers chain is. (chain_back channel submissions answers (empty_world channel.definitions) new chain is).1

pub returns-clause-chain : goal.returns-clause-chain
returns-clause-chain c = λ channel new submissions answers chain is. chain_then channel submissions answers (empty_world channel.definitions) new refl chain is
