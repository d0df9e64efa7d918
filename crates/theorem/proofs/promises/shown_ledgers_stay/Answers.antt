use Rattle.theorem.proofs.Determined.{ledger_stays, ledger_stays_on}
use Rattle.theorem.proofs.promises.shown_ledgers_stay.Goals as goal

pub returns-clause-submit : goal.returns-clause-submit
returns-clause-submit c = ledger_stays

pub returns-clause-run : goal.returns-clause-run
returns-clause-run c = ledger_stays_on
