use Rattle.reasons.proofs.Lacking.{one_is_missing, none_is_missing}
use Rattle.reasons.proofs.laws.unsatisfied_policies_miss_a_principal.Goals as goal

pub returns-clause-missing : goal.returns-clause-missing
returns-clause-missing c = λ policy endorsements signers spelled e. one_is_missing policy signers spelled e

pub returns-clause-satisfied : goal.returns-clause-satisfied
returns-clause-satisfied c = λ policy endorsements signers e. none_is_missing policy signers e
