use Rattle.theorem.proofs.Seen.{known_of, known_was_shown}
use Rattle.theorem.proofs.handles.handles_see_what_was_shown.Goals as goal

pub returns-clause-shown : goal.returns-clause-shown
returns-clause-shown c = known_was_shown

pub returns-clause-knows : goal.returns-clause-knows
returns-clause-knows c = known_of
