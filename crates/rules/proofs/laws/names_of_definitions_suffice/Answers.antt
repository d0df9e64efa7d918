use Rattle.rules.proofs.Names.{candidate_same, candidates_same}
use Rattle.rules.proofs.laws.names_of_definitions_suffice.Goals as goal

pub returns-clause-candidate : goal.returns-clause-candidate
returns-clause-candidate c = λ channel accepts w alone used item names. candidate_same channel w names accepts alone used item

pub returns-clause-candidates : goal.returns-clause-candidates
returns-clause-candidates c = λ channel accepts w alone uses earlier items names. candidates_same channel w names accepts alone uses earlier items
