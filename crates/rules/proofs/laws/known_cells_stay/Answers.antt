use Rattle.rules.proofs.Runs.{runs_keep}
use Rattle.rules.proofs.laws.known_cells_stay.Goals as goal

pub returns-clause-endorsements : goal.returns-clause-endorsements
returns-clause-endorsements c = λ j events old new i v r. (runs_keep j events old new r).endorsements i v

pub returns-clause-flags : goal.returns-clause-flags
returns-clause-flags c = λ j events old new i f r. (runs_keep j events old new r).flags i f
