use Rattle.serial_checks.proofs.Showing.{shown_reads}
use Rattle.serial_checks.proofs.in_order.read_verdict.Goals as goal

pub returns-clause-value : goal.returns-clause-value
returns-clause-value c = shown_reads c.args.job.now c.args.i c.in-Sure.verdict c.args.board.now c.decide.new.board c.requires.shown c.in-Sure.ensures.moves c.in-Sure.ensures.decision
