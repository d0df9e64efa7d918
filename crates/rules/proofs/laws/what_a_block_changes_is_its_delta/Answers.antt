use Rattle.rules.proofs.Deltas.{listed-is_delta}
use Rattle.rules.proofs.laws.what_a_block_changes_is_its_delta.Goals as goal

pub returns : goal.returns
returns c = listed-is_delta
