use Rattle.policy_eval.proofs.Monotone.{monotone}
use Rattle.policy_eval.proofs.laws.flat_gates_are_monotone.Goals as goal

pub returns : goal.returns
returns c = monotone
