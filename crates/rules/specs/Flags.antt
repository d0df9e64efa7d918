-- The numbers of flags, those of Fabric's `peer.TxValidationCode`, and which flags are given early.
use Rattle.std.specs.Prelude.{ℕ, ◌==◌, Bool, true, false, if◌then◌else◌, Option, Some, None}
use Rattle.rules.specs.declared.flag.Flag.{Flag}
use Rattle.rules.specs.declared.early_flag.EarlyFlag.{EarlyFlag}
use Rattle.rules.specs.declared.early_flag.EarlyFlag.TheVariants as early
use Rattle.rules.specs.declared.flag.Flag.TheVariants.{Valid, BadPayload, BadCreatorSignature, InvalidConfigTransaction, BadProposalTxId, DuplicateTxId, EndorsementPolicyFailure, MvccReadConflict, PhantomReadConflict, TargetChainNotFound, BadRwset, InvalidChaincode}

abbrev pub number_of : Flag → ℕ
number_of Valid = 0
number_of BadPayload = 2
number_of BadCreatorSignature = 4
number_of InvalidConfigTransaction = 6
number_of BadProposalTxId = 8
number_of DuplicateTxId = 9
number_of EndorsementPolicyFailure = 10
number_of MvccReadConflict = 11
number_of PhantomReadConflict = 12
number_of TargetChainNotFound = 14
number_of BadRwset = 22
number_of InvalidChaincode = 25

-- the flag that has this number, if one has
abbrev pub flag_numbered : ℕ → Option Flag
flag_numbered n =
    if n == 0 then Some Valid else
    (if n == 2 then Some BadPayload else
    (if n == 4 then Some BadCreatorSignature else
    (if n == 6 then Some InvalidConfigTransaction else
    (if n == 8 then Some BadProposalTxId else
    (if n == 9 then Some DuplicateTxId else
    (if n == 10 then Some EndorsementPolicyFailure else
    (if n == 11 then Some MvccReadConflict else
    (if n == 12 then Some PhantomReadConflict else
    (if n == 14 then Some TargetChainNotFound else
    (if n == 22 then Some BadRwset else
    (if n == 25 then Some InvalidChaincode else None)))))))))))

-- one that is given before the rules on the state, as one of all
abbrev pub flag_of : EarlyFlag → Flag
flag_of early.BadPayload = BadPayload
flag_of early.TargetChainNotFound = TargetChainNotFound
flag_of early.BadCreatorSignature = BadCreatorSignature
flag_of early.BadProposalTxId = BadProposalTxId
flag_of early.DuplicateTxId = DuplicateTxId
flag_of early.InvalidConfigTransaction = InvalidConfigTransaction
flag_of early.BadRwset = BadRwset
flag_of early.InvalidChaincode = InvalidChaincode

abbrev pub is_valid : Flag → Bool
is_valid Valid = true
is_valid _ = false
