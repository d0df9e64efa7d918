use Rattle.std.proofs.Common.{sym, ◌∙◌}
use Rattle.reasons_from_state.proofs.Bare.{no_fault}
use Rattle.reasons_from_state.proofs.Places.{invalid_is_told}
use Rattle.reasons_from_state.proofs.state_reasons.state_reason.Goals as goal

pub returns-then-is_valid-clause-value : goal.returns-then-is_valid-clause-value
returns-then-is_valid-clause-value c = λ channel accepts w items r same f reason.
    no_fault r c.flag_of-flag.result (f ∙ sym c.flag_of-flag.ensures) (sym c.is_valid.ensures ∙ c.if-is_valid.true)

pub fault_reason-requires-clause-told : goal.fault_reason-requires-clause-told
fault_reason-requires-clause-told c =
    invalid_is_told c.args.at.now.job.now c.args.at.now.i c.flag_of-flag.result c.args.open_tx.now.tx c.args.open_tx.now.signers c.requires.opened c.flag_of-flag.ensures (sym c.is_valid.ensures ∙ c.if-is_valid.false)
