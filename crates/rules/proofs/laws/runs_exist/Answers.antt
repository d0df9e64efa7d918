use Rattle.rules.proofs.Runs.{run_from}
use Rattle.rules.proofs.laws.runs_exist.Goals as goal

pub returns : goal.returns
returns c = λ j old events. run_from j events old
