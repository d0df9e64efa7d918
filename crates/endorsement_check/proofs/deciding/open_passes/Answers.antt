use Rattle.std.proofs.Common.{sym, ◌∙◌}
use Rattle.endorsement_check.proofs.WrittenKeys.{chaincode_fails, decided_by_keys}
use Rattle.endorsement_check.proofs.deciding.open_passes.Goals as goal

pub returns-then-not-chaincode_passes-clause-decision : goal.returns-then-not-chaincode_passes-clause-decision
returns-then-not-chaincode_passes-clause-decision g c = λ called agrees. chaincode_fails c.args.job.now c.args.i c.args.open_tx.now called c.args.open_tx.now.writes.keys c.requires.opened (sym c.chaincode_passes.ensures ∙ c.if-not-chaincode_passes.true)

pub returns-clause-decision : goal.returns-clause-decision
returns-clause-decision g c =
    decided_by_keys c.args.job.now c.args.i c.args.open_tx.now (g.B.Board.known c.may_write_all.new.board).endorsed c.may_write_all.result _ c.args.open_tx.now.writes.keys c.requires.opened
    (sym c.chaincode_passes.ensures ∙ c.if-not-chaincode_passes.false) c.may_write_all.ensures.decision
