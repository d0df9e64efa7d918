use Rattle.std.proofs.Common.{ap}
use Rattle.std.specs.Result.{result_ok}
use Rattle.policy.proofs.Readings.{law_found, law_only, law_fault, law_only_fault, law_policy}
use Rattle.policy.proofs.laws.policy_reading.Goals as goal

pub returns : goal.returns
returns c = record {
  policy = λ text t. (λ e. law_found text t (law_policy text t e), λ p. ap result_ok (law_only text t p));
  read = λ text t. (law_found text t, law_only text t);
  refused = λ text f. (law_fault text f, law_only_fault);
}
