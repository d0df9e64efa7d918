use Rattle.theorem.proofs.Determined.{refused_nothing, failed_nothing, stopped_stays}
use Rattle.theorem.proofs.promises.refusals_show_nothing.Goals as goal

pub returns-clause-refused : goal.returns-clause-refused
returns-clause-refused c = refused_nothing

pub returns-clause-failed : goal.returns-clause-failed
returns-clause-failed c = failed_nothing

pub returns-clause-stopped : goal.returns-clause-stopped
returns-clause-stopped c = stopped_stays
