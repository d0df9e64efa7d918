use Rattle.std.proofs.Common.{Option, sym, subst}
use Rattle.rules.specs.declared.flag.Flag.TheVariants.{EndorsementPolicyFailure}
use Rattle.reasons.specs.declared.reason.Reason.{Reason}
use Rattle.reasons_from_state.specs.Told.{IsTheReason}
use Rattle.reasons_from_state.proofs.StateTelling.{tells_endorsement}
use Rattle.reasons_from_state.proofs.state_reasons.endorsement_reason.Goals as goal

pub returns : goal.returns
returns c =
    let o = c.args.open_tx.now in
    subst (λ (x : Option Reason). IsTheReason c.args.at.now.job.now c.args.at.now.i EndorsementPolicyFailure x) (sym c.not_endorsed.ensures)
    (tells_endorsement c.args.at.now.job.now c.args.at.now.i c.each_place_has_one_reason.ensures.one_reason o.tx o.signers c.requires.opened c.in_ok-fault.fault c.in_ok-fault.ensures.found c.in_ok-fault.ensures.none)
