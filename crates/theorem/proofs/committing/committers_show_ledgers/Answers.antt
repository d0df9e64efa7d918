use Rattle.theorem.proofs.Ledgers.{submit_shows, run_shows, opened, height_shown, receipt_height}
use Rattle.theorem.proofs.committing.committers_show_ledgers.Goals as goal

pub returns-clause-opened : goal.returns-clause-opened
returns-clause-opened c = opened

pub returns-clause-height : goal.returns-clause-height
returns-clause-height c = height_shown

pub returns-clause-submit : goal.returns-clause-submit
returns-clause-submit c = submit_shows

pub returns-clause-run : goal.returns-clause-run
returns-clause-run c = run_shows

pub returns-clause-receipt : goal.returns-clause-receipt
returns-clause-receipt c = receipt_height
