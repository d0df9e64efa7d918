use Rattle.serial_checks.proofs.Showing.{shown_endorsed}
use Rattle.serial_checks.proofs.in_order.endorsed.Goals as goal

pub returns-clause-value : goal.returns-clause-value
returns-clause-value c = shown_endorsed c.args.job.now c.args.i c.in-Sure.endorsed c.args.board.now c.decide.new.board c.requires.shown c.in-Sure.ensures.moves c.in-Sure.ensures.decision
