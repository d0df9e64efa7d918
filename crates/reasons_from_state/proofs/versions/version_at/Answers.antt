use Rattle.reasons_from_state.proofs.ShownVersions.{shown_version}
use Rattle.reasons_from_state.proofs.versions.version_at.Goals as goal

pub returns-clause-value : goal.returns-clause-value
returns-clause-value c = shown_version c.args.job.now c.args.key.now c.args.i c.in-Sure.version c.args.board.now c.version_at.new.board c.requires.shown c.requires.place c.in-Sure.ensures.moves c.in-Sure.ensures.decision
