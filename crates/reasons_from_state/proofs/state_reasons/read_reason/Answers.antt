use Rattle.std.proofs.Common.{List, map, Option, sym, ap, subst, ◌∙◌}
use Rattle.transaction.specs.declared.transaction.NsSet.{NsSet}
use Rattle.rules.specs.declared.flag.Flag.TheVariants.{MvccReadConflict}
use Rattle.reasons.specs.First.{first_there}
use Rattle.reasons.specs.declared.reason.Reason.{Reason}
use Rattle.reasons_from_state.specs.Found.{stale_in}
use Rattle.reasons_from_state.specs.Told.{IsTheReason}
use Rattle.reasons_from_state.proofs.StateTelling.{tells_read}
use Rattle.reasons_from_state.proofs.state_reasons.read_reason.Goals as goal

pub returns-clause-value : goal.returns-clause-value
returns-clause-value c =
    let o = c.args.open_tx.now in
    subst (λ (x : Option Reason). IsTheReason c.args.at.now.job.now c.args.at.now.i MvccReadConflict x) (sym c.stale.ensures)
    (tells_read c.args.at.now.job.now c.args.at.now.i o.tx o.signers c.requires.opened c.in_ok-read.read
    (c.in_ok-read.ensures.value ∙ ap (λ (sets : List NsSet). first_there (map (stale_in c.args.at.now.job.now c.args.at.now.i) sets)) c.as_slice.ensures))
