use Rattle.policy_eval.proofs.Relation.{one_answer, evaluate_answers}
use Rattle.policy_eval.proofs.laws.one_evaluation.Goals as goal

pub returns-clause-one_answer : goal.returns-clause-one_answer
returns-clause-one_answer c = one_answer

pub returns-clause-function : goal.returns-clause-function
returns-clause-function c = evaluate_answers
