use Rattle.std.proofs.Common.{Bool, true, false, sym, ap, subst, ◌∙◌}
use Rattle.policy_eval.specs.Evaluation.{none_used}
use Rattle.policy_eval.specs.Assignment.{IsAssignment}
use Rattle.policy_eval.proofs.Relation.{decided, value_of, relation_of}
use Rattle.policy_eval.proofs.Served.{assigned_served, pairs_from, assignment_is}
use Rattle.policy_eval.proofs.assigning.assignment.Goals as goal

pub returns-then-branch-clause-value : goal.returns-then-branch-clause-value
returns-then-branch-clause-value c =
    let policy = c.args.policy.now in
    let signers = c.args.signers.now in
    let after = c.assign.new.used in
    let value = decided policy c.root.result.now signers c.as_slice-identities.result.now after c.in_ok-assign.field-0 c.root.ensures.tree c.as_slice-identities.ensures.value c.as_slice-identities.ensures.bound c.in_ok-assign.ensures.value in
    let pairs = pairs_from policy c.root.result.now signers c.as_slice-identities.result.now c.new.result.items c.assign.new.so_far.pairs.items c.root.ensures.tree c.as_slice-identities.ensures.value c.as_slice-identities.ensures.bound c.new.ensures.items c.in_ok-assign.ensures.pairs in
    assignment_is policy signers after true c.assign.new.so_far.pairs.items pairs (value ∙ ap (λ (b : Bool). (b, after)) c.if-branch.true)

pub returns-then-branch-clause-served : goal.returns-then-branch-clause-served
returns-then-branch-clause-served c =
    let policy = c.args.policy.now in
    let signers = c.args.signers.now in
    let pairs = pairs_from policy c.root.result.now signers c.as_slice-identities.result.now c.new.result.items c.assign.new.so_far.pairs.items c.root.ensures.tree c.as_slice-identities.ensures.value c.as_slice-identities.ensures.bound c.new.ensures.items c.in_ok-assign.ensures.pairs in
    subst (IsAssignment policy signers) (sym pairs) (assigned_served policy signers (none_used signers))

pub returns-then-branch-clause-relation : goal.returns-then-branch-clause-relation
returns-then-branch-clause-relation c =
    let policy = c.args.policy.now in
    let signers = c.args.signers.now in
    let after = c.assign.new.used in
    let value = decided policy c.root.result.now signers c.as_slice-identities.result.now after c.in_ok-assign.field-0 c.root.ensures.tree c.as_slice-identities.ensures.value c.as_slice-identities.ensures.bound c.in_ok-assign.ensures.value in
    relation_of policy signers true (sym c.if-branch.true ∙ value_of policy signers after c.in_ok-assign.field-0 value)

pub returns-else-branch-clause-value : goal.returns-else-branch-clause-value
returns-else-branch-clause-value c =
    let policy = c.args.policy.now in
    let signers = c.args.signers.now in
    let after = c.assign.new.used in
    let value = decided policy c.root.result.now signers c.as_slice-identities.result.now after c.in_ok-assign.field-0 c.root.ensures.tree c.as_slice-identities.ensures.value c.as_slice-identities.ensures.bound c.in_ok-assign.ensures.value in
    let pairs = pairs_from policy c.root.result.now signers c.as_slice-identities.result.now c.new.result.items _ c.root.ensures.tree c.as_slice-identities.ensures.value c.as_slice-identities.ensures.bound c.new.ensures.items c.in_ok-assign.ensures.pairs in
    assignment_is policy signers after false _ pairs (value ∙ ap (λ (b : Bool). (b, after)) c.if-branch.false)

pub returns-else-branch-clause-relation : goal.returns-else-branch-clause-relation
returns-else-branch-clause-relation c =
    let policy = c.args.policy.now in
    let signers = c.args.signers.now in
    let after = c.assign.new.used in
    let value = decided policy c.root.result.now signers c.as_slice-identities.result.now after c.in_ok-assign.field-0 c.root.ensures.tree c.as_slice-identities.ensures.value c.as_slice-identities.ensures.bound c.in_ok-assign.ensures.value in
    relation_of policy signers false (sym c.if-branch.false ∙ value_of policy signers after c.in_ok-assign.field-0 value)
