use Rattle.theorem.proofs.ValidItems.{valid_exactly, valid_id, valid_keys, valid_alone}
use Rattle.theorem.proofs.consequences.valid_items_pass_all_tests.Goals as goal

pub returns-clause-valid : goal.returns-clause-valid
returns-clause-valid c = valid_exactly

pub returns-clause-new_id : goal.returns-clause-new_id
returns-clause-new_id c = valid_id

pub returns-clause-no_closed_key : goal.returns-clause-no_closed_key
returns-clause-no_closed_key c = valid_keys

pub returns-clause-alone : goal.returns-clause-alone
returns-clause-alone c = valid_alone
