use Rattle.theorem.proofs.Tellings.{tellings_show}
use Rattle.theorem.proofs.committing.tellings_show_ledgers.Goals as goal

pub returns : goal.returns
returns g c accepts = tellings_show _ accepts
