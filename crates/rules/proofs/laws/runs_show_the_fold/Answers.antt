use Rattle.rules.proofs.Sound.{runs_show}
use Rattle.rules.proofs.laws.runs_show_the_fold.Goals as goal

pub returns : goal.returns
returns c = runs_show
