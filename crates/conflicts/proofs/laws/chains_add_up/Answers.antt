use Rattle.conflicts.proofs.Sums.{flags_of_two, conflicts_of_two}
use Rattle.conflicts.proofs.laws.chains_add_up.Goals as goal

pub returns : goal.returns
returns c = record { flags = flags_of_two; keys = conflicts_of_two }
