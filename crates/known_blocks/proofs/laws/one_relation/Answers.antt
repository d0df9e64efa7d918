use Rattle.known_blocks.proofs.Relations.{one_said}
use Rattle.known_blocks.proofs.laws.one_relation.Goals as goal

pub returns : goal.returns
returns c = one_said
