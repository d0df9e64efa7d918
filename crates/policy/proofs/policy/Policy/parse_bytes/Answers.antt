use Rattle.std.proofs.Common.{ap, inl, inr, Ok, Err}
use Rattle.std.proofs.lemmas.Result.{err_from_is_err_and}
use Rattle.policy.proofs.Readings.{law_found, refused_kind, refused_fault, refused_policy, tree_or_fault, one_tree}
use Rattle.policy.proofs.policy.Policy.parse_bytes.Goals as goal

pub returns-in_err-root-clause-only : goal.returns-in_err-root-clause-only
returns-in_err-root-clause-only c =
    let p = err_from_is_err_and c.from_residual.result c.from_residual.ensures.1 in
    rw (p.1, p.2) (λ t h. inr (ap Err (refused_policy c.in_err-root.field-0.0 c.args.bytes.now t h c.in_err-root.ensures)))

pub returns-in_err-root-clause-fault : goal.returns-in_err-root-clause-fault
returns-in_err-root-clause-fault c =
    let p = err_from_is_err_and c.from_residual.result c.from_residual.ensures.1 in
    rw (p.1, p.2) (refused_kind c.in_err-root.field-0.0 c.args.bytes.now c.in_err-root.ensures)

pub returns-in_err-root-clause-only_fault : goal.returns-in_err-root-clause-only_fault
returns-in_err-root-clause-only_fault c =
    let p = err_from_is_err_and c.from_residual.result c.from_residual.ensures.1 in
    rw (p.1, p.2) (λ f h. refused_fault c.in_err-root.field-0.0 c.args.bytes.now f h c.in_err-root.ensures)

pub invariant_of-result : goal.invariant_of-result
invariant_of-result c = record { text = c.args.bytes.now; policy = law_found c.args.bytes.now c.in_ok-root.root c.in_ok-root.ensures }

pub returns-clause-found : goal.returns-clause-found
returns-clause-found c = law_found c.args.bytes.now c.in_ok-root.root c.in_ok-root.ensures

pub returns-clause-only : goal.returns-clause-only
returns-clause-only c = λ t h. inl (ap Ok (one_tree c.args.bytes.now c.in_ok-root.root t (law_found c.args.bytes.now c.in_ok-root.root c.in_ok-root.ensures) h))

pub returns-clause-only_fault : goal.returns-clause-only_fault
returns-clause-only_fault c = λ f h. absurd (tree_or_fault c.args.bytes.now c.in_ok-root.root f (law_found c.args.bytes.now c.in_ok-root.root c.in_ok-root.ensures) h)
