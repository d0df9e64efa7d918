-- Whom and what a reason names.
use Rattle.std.specs.Prelude.{ℕ, List, []}
use Rattle.reasons.specs.declared.endorsement_fault.EndorsementFault.{EndorsementFault}
use Rattle.reasons.specs.declared.endorsement_fault.EndorsementFault.TheVariants.{Touched, Unsatisfied, ChaincodeUnsatisfied}
use Rattle.reasons.specs.declared.form_fault.FormFault.{FormFault}
use Rattle.reasons.specs.declared.form_fault.FormFault.TheVariants.{NamespaceRepeats, KeyRepeats, ResultFalls, ResultLeaves, UnreadablePolicy}
use Rattle.reasons.specs.declared.queried_range.QueriedRange.{QueriedRange}
use Rattle.reasons.specs.declared.reason.Reason.{Reason}
use Rattle.reasons.specs.declared.reason.Reason.TheVariants.{InvalidUpdate, NotEndorsed, ReadConflict, PhantomConflict, OtherChannel, NotInForm, Undefined}
use Rattle.reasons.specs.declared.update_fault.UpdateFault.{UpdateFault}
use Rattle.reasons.specs.declared.update_fault.UpdateFault.TheVariants.{NoDefinition}
use Rattle.reason_lists.specs.declared.places.Places.{Places}

abbrev pub no_places : Places
no_places = record { name = []; key = []; start = []; end = [] }

abbrev pub named : List ℕ → Places
named name = record { name = name; key = []; start = []; end = [] }

abbrev pub keyed : List ℕ → List ℕ → Places
keyed name key = record { name = name; key = key; start = []; end = [] }

-- a key that a query found, or that it should have found
abbrev pub ranged : QueriedRange → List ℕ → Places
ranged range key = record { name = range.namespace; key = key; start = range.start; end = range.end }

abbrev pub update_places : UpdateFault → Places
update_places (NoDefinition chaincode) = named chaincode
update_places _ = no_places

abbrev pub endorsement_places : EndorsementFault → Places
endorsement_places (Touched namespace key place) = keyed namespace key
endorsement_places (Unsatisfied namespace key owner lack) = keyed namespace key
endorsement_places (ChaincodeUnsatisfied chaincode lack) = named chaincode

abbrev pub form_places : FormFault → Places
form_places (NamespaceRepeats namespace) = named namespace
form_places (KeyRepeats namespace list key) = keyed namespace key
form_places (ResultFalls x) = ranged x.range x.key
form_places (ResultLeaves x) = ranged x.range x.key
form_places (UnreadablePolicy namespace key fault) = keyed namespace key

-- the others name nothing
abbrev pub places_in : Reason → Places
places_in (InvalidUpdate fault) = update_places fault
places_in (NotEndorsed fault) = endorsement_places fault
places_in (ReadConflict x) = keyed x.namespace x.key
places_in (PhantomConflict x) = ranged x.range x.key
places_in (OtherChannel channel) = named channel
places_in (NotInForm fault) = form_places fault
places_in (Undefined chaincode) = named chaincode
places_in _ = no_places
