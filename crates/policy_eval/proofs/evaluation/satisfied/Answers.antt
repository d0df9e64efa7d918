use Rattle.policy_eval.proofs.Relation.{decided, value_of, relation_of}
use Rattle.policy_eval.proofs.evaluation.satisfied.Goals as goal

pub returns-clause-value : goal.returns-clause-value
returns-clause-value c =
    let policy = c.args.policy.now in
    let signers = c.args.signers.now in
    let after = c.evaluate.new.used in
    value_of policy signers after c.evaluate.result
    (decided policy c.root.result.now signers c.as_slice-identities.result.now after c.evaluate.result c.root.ensures.tree c.as_slice-identities.ensures.value c.as_slice-identities.ensures.bound c.evaluate.ensures)

pub returns-clause-relation : goal.returns-clause-relation
returns-clause-relation c = relation_of c.args.policy.now c.args.signers.now c.evaluate.result (returns-clause-value c)
