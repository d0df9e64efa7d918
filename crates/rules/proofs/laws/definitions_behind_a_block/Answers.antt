use Rattle.rules.specs.Commit.{items_of}
use Rattle.rules.proofs.OpenUpdates.{definition_behind, definitions_kept}
use Rattle.rules.proofs.laws.definitions_behind_a_block.Goals as goal

pub returns-clause-valid : goal.returns-clause-valid
returns-clause-valid c = λ channel accepts w bytes b chaincode valid. definition_behind channel accepts w (items_of b) chaincode valid

pub returns-clause-invalid : goal.returns-clause-invalid
returns-clause-invalid c = λ channel accepts w bytes b invalid. definitions_kept channel accepts w (items_of b) invalid
