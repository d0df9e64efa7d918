use Rattle.theorem.proofs.Unchanged.{flag_each}
use Rattle.theorem.proofs.consequences.each_item_has_one_flag.Goals as goal

pub returns : goal.returns
returns c = flag_each
