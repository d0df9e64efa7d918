use Rattle.reasons.proofs.BlockReasons.{flags_of_reasons, one_list, some_list}
use Rattle.reasons.proofs.laws.reasons_have_the_flags.Goals as goal

pub returns-clause-some_list : goal.returns-clause-some_list
returns-clause-some_list c = some_list

pub returns-clause-one_list : goal.returns-clause-one_list
returns-clause-one_list c = one_list

pub returns-clause-flags : goal.returns-clause-flags
returns-clause-flags c = flags_of_reasons
