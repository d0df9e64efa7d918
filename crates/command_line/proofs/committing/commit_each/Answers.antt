use Rattle.command_line.proofs.Handing.{last_is_for}
use Rattle.command_line.proofs.committing.commit_each.Goals as goal

pub returns-clause-last : goal.returns-clause-last
returns-clause-last g c = last_is_for _ _ _ _ _ _ _ _ c.in_ok-commit_told.ensures
