-- The endorsements that a chaincode's policy requires, and that a transaction is missing. Instead of a key it has the
-- principal that is missing, as policies write it between quotes.
use Rattle.std.specs.Prelude.{ℕ, List, [], ◌∷◌, false, Option, Some, None}
use Rattle.std.specs.List.{filter_map}
use Rattle.policy.specs.Token.{named}
use Rattle.policy.specs.declared.tree.Principal.{Principal}
use Rattle.reasons.specs.declared.endorsement_fault.EndorsementFault.{EndorsementFault}
use Rattle.reasons.specs.declared.endorsement_fault.EndorsementFault.TheVariants.{Unsatisfied, ChaincodeUnsatisfied}
use Rattle.reasons.specs.declared.policy_owner.PolicyOwner.TheVariants.{OfChaincode}
use Rattle.reasons.specs.declared.reason.Reason.{Reason}
use Rattle.reasons.specs.declared.reason.Reason.TheVariants.{NotEndorsed}
use Rattle.conflicts.specs.declared.conflict.Conflict.{Conflict}
use Rattle.conflicts.specs.declared.kind.Kind.TheVariants.{OwnPolicy}

-- `ORG.ROLE`, or `-` if there is none, which results from no policy that a text encodes
abbrev pub principal_text : Option Principal → List ℕ
principal_text (Some p) = named p.org p.role
principal_text None = 45 ∷ []

-- of this chaincode's own policy
abbrev pub lack : List ℕ → Option Principal → Conflict
lack chaincode missing = record { key = (chaincode, principal_text missing); kind = OwnPolicy; in_block = false }

-- A key's own policy is to blame for itself, and for no chaincode.
abbrev pub endorsement_lack : EndorsementFault → Option Conflict
endorsement_lack (Unsatisfied namespace key OfChaincode x) = Some (lack namespace x.missing)
endorsement_lack (ChaincodeUnsatisfied chaincode x) = Some (lack chaincode x.missing)
endorsement_lack _ = None

abbrev pub lack_of : Reason → Option Conflict
lack_of (NotEndorsed fault) = endorsement_lack fault
lack_of _ = None

-- of transactions with these reasons, in order
abbrev pub lacks_of : List Reason → List Conflict
lacks_of reasons = filter_map lack_of reasons
