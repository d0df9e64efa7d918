use Rattle.policy_eval.specs.Evaluation.{none_used}
use Rattle.reasons.proofs.Missing.{one_misses_it, one_missing}
use Rattle.reasons.proofs.laws.missing_principals_are_the_first.Goals as goal

pub returns-clause-missing : goal.returns-clause-missing
returns-clause-missing c = λ policy endorsements signers spelled e. one_misses_it c.one_evaluation.ensures.function policy signers spelled e

pub returns-clause-only : goal.returns-clause-only
returns-clause-only c = λ policy signers p q a b. one_missing c.one_evaluation.ensures.one_answer policy signers (none_used signers) p q a b
