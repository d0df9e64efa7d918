-- The flag that a transaction's read and write sets get, before the rules on the state.
use Rattle.std.specs.Prelude.{[], ◌∷◌, Option}
use Rattle.transaction.specs.declared.transaction.Tx.{Tx}
use Rattle.policy.specs.Policies.{Policies}
use Rattle.rules.specs.declared.early_flag.EarlyFlag.{EarlyFlag}
use Rattle.rules.specs.declared.early_flag.EarlyFlag.TheVariants.{BadRwset, InvalidChaincode}
use Rattle.rules.specs.ReadWriteSets.{is_in_form}
use Rattle.rules.specs.Candidate.{first_failed, is_all_defined}

-- sets that aren't well-formed, otherwise a chaincode without a definition
abbrev pub sets_fault : Policies → Tx → Option EarlyFlag
sets_fault definitions tx = first_failed ((is_in_form tx, BadRwset) ∷ (is_all_defined definitions tx, InvalidChaincode) ∷ [])
