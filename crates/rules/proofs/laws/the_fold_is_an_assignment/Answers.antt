use Rattle.rules.proofs.Bridge.{endorsement_under-endorsed, state_under-valid, reads_under-valid}
use Rattle.rules.proofs.laws.the_fold_is_an_assignment.Goals as goal

pub returns-clause-endorsement : goal.returns-clause-endorsement
returns-clause-endorsement c = endorsement_under-endorsed

pub returns-clause-state : goal.returns-clause-state
returns-clause-state c = state_under-valid

pub returns-clause-reads : goal.returns-clause-reads
returns-clause-reads c = reads_under-valid
