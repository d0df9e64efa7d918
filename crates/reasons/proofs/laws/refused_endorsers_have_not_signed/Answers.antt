use Rattle.std.proofs.Common.{refl}
use Rattle.policy_eval.specs.Signers.{signers_of, HasSigned}
use Rattle.policy_eval.specs.UpdateSigners.{update_signers_of, HasSignedUpdate}
use Rattle.reasons.proofs.Refused.{refused_endorser, endorser_refused}
use Rattle.reasons.proofs.laws.refused_endorsers_have_not_signed.Goals as goal

pub returns-clause-named : goal.returns-clause-named
returns-clause-named c = λ accepts tx policy i there.
    let law = c.each_signer_once.ensures.signed in
    refused_endorser law tx.endorsements (signers_of accepts tx) i (HasSigned accepts tx i) (law accepts tx i) there

pub returns-clause-each : goal.returns-clause-each
returns-clause-each c = λ accepts tx policy e there none.
    let law = c.each_signer_once.ensures.signed in
    endorser_refused law tx.endorsements (signers_of accepts tx) e.endorser (HasSigned accepts tx e.endorser) (law accepts tx e.endorser) (e, there, refl) none

pub returns-clause-named_of_an_update : goal.returns-clause-named_of_an_update
returns-clause-named_of_an_update c = λ accepts u policy i there.
    refused_endorser c.each_signer_once.ensures.signed u.endorsements (update_signers_of accepts u) i (HasSignedUpdate accepts u i) (c.each_update_signer_once.ensures.signed accepts u i) there

pub returns-clause-each_of_an_update : goal.returns-clause-each_of_an_update
returns-clause-each_of_an_update c = λ accepts u policy e there none.
    endorser_refused c.each_signer_once.ensures.signed u.endorsements (update_signers_of accepts u) e.endorser (HasSignedUpdate accepts u e.endorser)
    (c.each_update_signer_once.ensures.signed accepts u e.endorser) (e, there, refl) none
