use Rattle.signature_requests.proofs.SameStep.{step-same}
use Rattle.signature_requests.proofs.laws.verifiers_that_agree_make_one_step.Goals as goal

pub returns : goal.returns
returns c = step-same
