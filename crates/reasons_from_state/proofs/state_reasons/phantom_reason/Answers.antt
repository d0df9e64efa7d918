use Rattle.std.proofs.Common.{List, Option, sym, subst}
use Rattle.transaction.specs.declared.transaction.NsSet.{NsSet}
use Rattle.rules.specs.declared.flag.Flag.TheVariants.{PhantomReadConflict}
use Rattle.reasons.specs.declared.reason.Reason.{Reason}
use Rattle.reasons_from_state.specs.Found.{IsFoundInSets}
use Rattle.reasons_from_state.specs.Told.{IsTheReason}
use Rattle.reasons_from_state.proofs.StateTelling.{tells_phantom}
use Rattle.reasons_from_state.proofs.state_reasons.phantom_reason.Goals as goal

pub returns-clause-value : goal.returns-clause-value
returns-clause-value c =
    let o = c.args.open_tx.now in
    subst (λ (x : Option Reason). IsTheReason c.args.at.now.job.now c.args.at.now.i PhantomReadConflict x) (sym c.phantom.ensures)
    (tells_phantom c.args.at.now.job.now c.args.at.now.i c.each_place_has_one_reason.ensures.one_reason o.tx o.signers c.requires.opened o.in_form c.in_ok-key.key
    (subst (λ (sets : List NsSet). IsFoundInSets c.args.at.now.job.now c.args.at.now.i sets c.in_ok-key.key) c.as_slice.ensures c.in_ok-key.ensures.value))
