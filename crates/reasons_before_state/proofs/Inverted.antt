-- Which reason a flag has.
use Rattle.std.proofs.Common.{◌≡◌, ℕ, List, refl, subst}
use Rattle.transaction.specs.declared.identity.Identity.{Identity}
use Rattle.rules.specs.declared.flag.Flag.{Flag}
use Rattle.rules.specs.declared.flag.Flag.TheVariants.{Valid, BadPayload, BadCreatorSignature, InvalidConfigTransaction, BadProposalTxId, DuplicateTxId, EndorsementPolicyFailure, MvccReadConflict, PhantomReadConflict, TargetChainNotFound, BadRwset, InvalidChaincode}
use Rattle.reasons.specs.declared.reason.Reason.{Reason}
use Rattle.reasons.specs.declared.reason.Reason.TheVariants.{NoFault, NoTransaction, BadSignature, InvalidUpdate, OtherId, UsedId, NotEndorsed, ReadConflict, PhantomConflict, OtherChannel, NotInForm, Undefined}
use Rattle.reasons.specs.declared.update_fault.UpdateFault.{UpdateFault}
use Rattle.reasons.specs.declared.id_use.IdUse.{IdUse}
use Rattle.reasons.specs.declared.form_fault.FormFault.{FormFault}
use Rattle.reasons.specs.declared.endorsement_fault.EndorsementFault.{EndorsementFault}
use Rattle.reasons.specs.declared.stale_read.StaleRead.{StaleRead}
use Rattle.reasons.specs.declared.phantom_key.PhantomKey.{PhantomKey}
use Rattle.reasons.specs.Reason.{flag_of}

abbrev pub IsOfFlag : Flag → Reason → Type 0
IsOfFlag Valid r = r ≡ NoFault
IsOfFlag BadPayload r = r ≡ NoTransaction
IsOfFlag BadCreatorSignature r = (creator : Identity) × (r ≡ BadSignature creator)
IsOfFlag InvalidConfigTransaction r = (f : UpdateFault) × (r ≡ InvalidUpdate f)
IsOfFlag BadProposalTxId r = (id : List ℕ) × (r ≡ OtherId id)
IsOfFlag DuplicateTxId r = (place : IdUse) × (r ≡ UsedId place)
IsOfFlag EndorsementPolicyFailure r = (f : EndorsementFault) × (r ≡ NotEndorsed f)
IsOfFlag MvccReadConflict r = (x : StaleRead) × (r ≡ ReadConflict x)
IsOfFlag PhantomReadConflict r = (x : PhantomKey) × (r ≡ PhantomConflict x)
IsOfFlag TargetChainNotFound r = (name : List ℕ) × (r ≡ OtherChannel name)
IsOfFlag BadRwset r = (f : FormFault) × (r ≡ NotInForm f)
IsOfFlag InvalidChaincode r = (name : List ℕ) × (r ≡ Undefined name)

own_flag : (r : Reason) → IsOfFlag (flag_of r) r
own_flag NoFault = refl
own_flag NoTransaction = refl
own_flag (BadSignature creator) = (creator, refl)
own_flag (InvalidUpdate f) = (f, refl)
own_flag (OtherId id) = (id, refl)
own_flag (UsedId place) = (place, refl)
own_flag (NotEndorsed f) = (f, refl)
own_flag (ReadConflict x) = (x, refl)
own_flag (PhantomConflict x) = (x, refl)
own_flag (OtherChannel name) = (name, refl)
own_flag (NotInForm f) = (f, refl)
own_flag (Undefined name) = (name, refl)

pub of_flag : (r : Reason) (f : Flag) → flag_of r ≡ f → IsOfFlag f r
of_flag r f e = subst (λ (x : Flag). IsOfFlag x r) e (own_flag r)
