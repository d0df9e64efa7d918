use Rattle.rules.proofs.Invalid.{invalid-state, invalid-changes, invalid-entries, invalid-definitions}
use Rattle.rules.proofs.laws.invalid_transactions_change_nothing.Goals as goal

pub returns-clause-state : goal.returns-clause-state
returns-clause-state c = invalid-state

pub returns-clause-changes : goal.returns-clause-changes
returns-clause-changes c = invalid-changes

pub returns-clause-entries : goal.returns-clause-entries
returns-clause-entries c = invalid-entries

pub returns-clause-definitions : goal.returns-clause-definitions
returns-clause-definitions c = invalid-definitions
