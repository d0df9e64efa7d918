-- Which reasons an item tells without the state. No public contract cites this.
use Rattle.std.specs.Prelude.{Bool, true, false}
use Rattle.rules.specs.declared.early_flag.EarlyFlag.{EarlyFlag}
use Rattle.rules.specs.declared.early_flag.EarlyFlag.TheVariants.{BadCreatorSignature, BadProposalTxId, DuplicateTxId, TargetChainNotFound, InvalidConfigTransaction, BadRwset, InvalidChaincode}

-- of these flags
abbrev pub is_told_by_item : EarlyFlag → Bool
is_told_by_item BadCreatorSignature = true
is_told_by_item BadProposalTxId = true
is_told_by_item DuplicateTxId = true
is_told_by_item TargetChainNotFound = true
is_told_by_item InvalidConfigTransaction = true
is_told_by_item BadRwset = true
is_told_by_item InvalidChaincode = true
is_told_by_item _ = false
