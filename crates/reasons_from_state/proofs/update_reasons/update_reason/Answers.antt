use Rattle.std.proofs.Common.{List, Option, Some, ap, sym, subst, ◌∙◌}
use Rattle.std.proofs.lemmas.Result.{IfOk-weaker}
use Rattle.transaction.specs.declared.transaction.Endorsement.{Endorsement}
use Rattle.rules.specs.Fold.{flag}
use Rattle.reasons.specs.declared.reason.Reason.{Reason}
use Rattle.reasons.specs.declared.reason.Reason.TheVariants.{InvalidUpdate}
use Rattle.reasons.specs.declared.update_fault.UpdateFault.TheVariants.{AdminUnsatisfied}
use Rattle.reasons.specs.Shortfall.{shortfall_of}
use Rattle.reasons_from_state.specs.Told.{IsTheReason}
use Rattle.reasons_from_state.proofs.UpdateTelling.{tells_refused, tells_no_admin}
use Rattle.reasons_from_state.proofs.update_reasons.update_reason.Goals as goal

pub returns-in-None : goal.returns-in-None
returns-in-None c = let o = c.args.open_update.now in tells_no_admin c.args.at.now.job.now c.args.at.now.i o.update o.signers c.requires.opened (sym c.in-None.ensures)

pub returns-in-Some : goal.returns-in-Some
returns-in-Some c =
    let o = c.args.open_update.now in
    IfOk-weaker c.admin_unsatisfied.result _ _ (λ x h. subst (λ (y : Option Reason). IsTheReason c.args.at.now.job.now c.args.at.now.i (flag c.args.at.now.job.now c.args.at.now.i) y) (sym (h ∙ ap (λ (es : List Endorsement). Some (InvalidUpdate (AdminUnsatisfied (shortfall_of es o.signers c.in-Some.policy.now)))) c.as_slice-endorsements.ensures))
    (tells_refused c.args.at.now.job.now c.args.at.now.i o.update o.signers c.requires.opened c.each_place_has_one_reason.ensures.one_reason (sym c.has_passed.ensures ∙ c.if-has_passed.false) c.in-Some.policy.now (sym c.in-Some.ensures)))
    c.admin_unsatisfied.ensures
