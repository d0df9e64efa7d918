use Rattle.theorem.proofs.Seen.{query_knows, receipt_learned}
use Rattle.theorem.proofs.handles.handles_know_more_and_more.Goals as goal

pub returns-clause-query : goal.returns-clause-query
returns-clause-query c = query_knows

pub returns-clause-learn : goal.returns-clause-learn
returns-clause-learn c = receipt_learned
