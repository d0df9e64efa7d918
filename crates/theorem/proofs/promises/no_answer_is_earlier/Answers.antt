use Rattle.theorem.proofs.Seen.{one_ledger}
use Rattle.theorem.proofs.promises.no_answer_is_earlier.Goals as goal

pub returns-clause-one_ledger : goal.returns-clause-one_ledger
returns-clause-one_ledger g c = one_ledger
