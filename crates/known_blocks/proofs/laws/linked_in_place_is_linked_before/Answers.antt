use Rattle.known_blocks.proofs.Before.{was_linked, stays_linked}
use Rattle.known_blocks.proofs.laws.linked_in_place_is_linked_before.Goals as goal

pub returns-clause-was : goal.returns-clause-was
returns-clause-was c = was_linked

pub returns-clause-stays : goal.returns-clause-stays
returns-clause-stays c = λ channel before after submissions answers b chain linked. stays_linked channel before after submissions answers b chain linked.number linked
