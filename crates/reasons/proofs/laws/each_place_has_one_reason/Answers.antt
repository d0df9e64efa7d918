use Rattle.reasons.proofs.Existence.{some_reason}
use Rattle.reasons.proofs.Uniqueness.{one_reason}
use Rattle.reasons.proofs.laws.each_place_has_one_reason.Goals as goal

pub returns-clause-some_reason : goal.returns-clause-some_reason
returns-clause-some_reason c = some_reason

pub returns-clause-one_reason : goal.returns-clause-one_reason
returns-clause-one_reason c = one_reason
