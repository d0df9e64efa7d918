use Rattle.rules.specs.State.{with_changes}
use Rattle.rules.proofs.CommitBytes.{same_rows_told}
use Rattle.rules.proofs.laws.update_bytes_are_of_what_is_left.Goals as goal

pub returns : goal.returns
returns c = λ before cs ds same. same_rows_told before (with_changes before cs) (with_changes before ds) same
