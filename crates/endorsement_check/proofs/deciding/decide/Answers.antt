use Rattle.rules.specs.Assignment.{endorsement_under}
use Rattle.rules.specs.Sure.{Sure}
use Rattle.endorsement_check.proofs.WrittenKeys.{none_waited_for}
use Rattle.endorsement_check.proofs.deciding.decide.Goals as goal

pub returns-in-Opened-clause-grows : goal.returns-in-Opened-clause-grows
returns-in-Opened-clause-grows g c = g.met.B.Board.grows _ _ c.open_passes.ensures.moves

pub returns-in-Opened-clause-decided : goal.returns-in-Opened-clause-decided
returns-in-Opened-clause-decided g c =
    none_waited_for c.args.i _ (g.B.Board.known c.open_passes.new.board) c.open_passes.result (λ v. Sure (endorsement_under c.args.job.now) (g.B.Board.known c.open_passes.new.board).endorsed c.args.i v) _ (g.met.B.Board.grows _ _ c.open_passes.ensures.moves) c.open_passes.ensures.decision
