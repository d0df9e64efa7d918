use Rattle.rules.proofs.OpenUpdates.{one_definition, steps_keep_names}
use Rattle.rules.proofs.laws.steps_keep_the_names_of_definitions.Goals as goal

pub returns-clause-one : goal.returns-clause-one
returns-clause-one c = one_definition

pub returns-clause-names : goal.returns-clause-names
returns-clause-names c = steps_keep_names
