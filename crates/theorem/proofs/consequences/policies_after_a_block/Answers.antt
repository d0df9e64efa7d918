use Rattle.theorem.proofs.Unchanged.{update_replaces, transaction_replaces_none, invalid_replaces_none, several_policies}
use Rattle.theorem.proofs.consequences.policies_after_a_block.Goals as goal

pub returns-clause-update : goal.returns-clause-update
returns-clause-update c = update_replaces

pub returns-clause-invalid : goal.returns-clause-invalid
returns-clause-invalid c = invalid_replaces_none

pub returns-clause-transaction : goal.returns-clause-transaction
returns-clause-transaction c = transaction_replaces_none

pub returns-clause-several : goal.returns-clause-several
returns-clause-several c = several_policies
