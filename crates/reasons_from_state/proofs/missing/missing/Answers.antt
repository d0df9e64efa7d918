use Rattle.std.proofs.Common.{◌≡◌, List, ℕ, Some, None, sym, ap, ◌∙◌}
use Rattle.std.specs.Option.{option_copied}
use Rattle.policy.specs.declared.tree.Principal.{Principal}
use Rattle.reasons_from_state.proofs.WhoIsMissing.{missing_is}
use Rattle.reasons_from_state.proofs.missing.missing.Goals as goal

pub returns-in-None : goal.returns-in-None
returns-in-None c =
    missing_is c.args.policy.now c.root.result.now c.args.signers.now c.as_slice-identities.result.now None c.root.ensures.tree c.as_slice-identities.ensures.value c.as_slice-identities.ensures.bound
    (sym (ap option_copied c.in-None.is) ∙ c.missing_from.ensures.missing)

pub returns-in_ok-from_slice-in-Some : goal.returns-in_ok-from_slice-in-Some
returns-in_ok-from_slice-in-Some c =
    let p : Principal = c.in-Some.principal.now in
    let name : c.in_ok-from_slice-in-Some.field-0 ≡ p.org = c.in_ok-from_slice-in-Some.ensures ∙ c.as_slice.ensures.value in
    missing_is c.args.policy.now c.root.result.now c.args.signers.now c.as_slice-identities.result.now (Some _) c.root.ensures.tree c.as_slice-identities.ensures.value c.as_slice-identities.ensures.bound
    (ap (λ (org : List ℕ). Some (record p { org = org })) name ∙ sym (ap option_copied c.in-Some.is) ∙ c.missing_from.ensures.missing)
