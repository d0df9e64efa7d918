-- What signers lack, where a reason says that they don't satisfy a policy.
use Rattle.std.specs.Prelude.{ℕ, List, [], Bool, false, Option, Some, None}
use Rattle.transaction.specs.declared.identity.Identity.{Identity}
use Rattle.policy.specs.Text.{text_of}
use Rattle.policy.specs.declared.tree.PolicyRole.{PolicyRole}
use Rattle.policy.specs.declared.tree.PolicyRole.TheVariants.{Admin, Client, Peer, Orderer, Member}
use Rattle.policy.specs.declared.tree.Principal.{Principal}
use Rattle.reasons.specs.declared.endorsement_fault.EndorsementFault.{EndorsementFault}
use Rattle.reasons.specs.declared.endorsement_fault.EndorsementFault.TheVariants.{Touched, Unsatisfied, ChaincodeUnsatisfied}
use Rattle.reasons.specs.declared.reason.Reason.{Reason}
use Rattle.reasons.specs.declared.reason.Reason.TheVariants.{InvalidUpdate, NotEndorsed}
use Rattle.reasons.specs.declared.shortfall.Shortfall.{Shortfall}
use Rattle.reasons.specs.declared.update_fault.UpdateFault.{UpdateFault}
use Rattle.reasons.specs.declared.update_fault.UpdateFault.TheVariants.{AdminUnsatisfied}

abbrev pub update_shortfall : UpdateFault → Option Shortfall
update_shortfall (AdminUnsatisfied x) = Some x
update_shortfall _ = None

abbrev pub endorsement_shortfall : EndorsementFault → Option Shortfall
endorsement_shortfall (Touched namespace key place) = None
endorsement_shortfall (Unsatisfied namespace key owner x) = Some x
endorsement_shortfall (ChaincodeUnsatisfied chaincode x) = Some x

abbrev pub shortfall_in : Reason → Option Shortfall
shortfall_in (InvalidUpdate fault) = update_shortfall fault
shortfall_in (NotEndorsed fault) = endorsement_shortfall fault
shortfall_in _ = None

-- ---- what is told of it

abbrev pub signers_in : Option Shortfall → List Identity
signers_in None = []
signers_in (Some x) = x.signers

abbrev pub refused_in : Option Shortfall → List Identity
refused_in None = []
refused_in (Some x) = x.refused

abbrev pub policy_in : Option Shortfall → List ℕ
policy_in None = []
policy_in (Some x) = text_of x.policy

abbrev pub would_reorder : Option Shortfall → Bool
would_reorder None = false
would_reorder (Some x) = x.another_order

abbrev pub missing_in : Option Shortfall → Option Principal
missing_in None = None
missing_in (Some x) = x.missing

abbrev pub missing_org : Option Principal → List ℕ
missing_org None = []
missing_org (Some p) = p.org

-- a verdict's numbers of roles, and one for the role that each fills
abbrev pub role_number : PolicyRole → ℕ
role_number Admin = 0
role_number Client = 1
role_number Peer = 2
role_number Orderer = 3
role_number Member = 4

abbrev pub missing_role : Option Principal → ℕ
missing_role None = 0
missing_role (Some p) = role_number p.role
