use Rattle.theorem.proofs.Unchanged.{state_kept, history_kept, policies_kept, replaced_kept, ids_kept, keys_kept}
use Rattle.theorem.proofs.consequences.invalid_items_change_nothing.Goals as goal

pub returns-clause-state : goal.returns-clause-state
returns-clause-state c = state_kept

pub returns-clause-history : goal.returns-clause-history
returns-clause-history c = history_kept

pub returns-clause-policies : goal.returns-clause-policies
returns-clause-policies c = policies_kept

pub returns-clause-replaced : goal.returns-clause-replaced
returns-clause-replaced c = replaced_kept

pub returns-clause-ids : goal.returns-clause-ids
returns-clause-ids c = ids_kept

pub returns-clause-keys : goal.returns-clause-keys
returns-clause-keys c = keys_kept
