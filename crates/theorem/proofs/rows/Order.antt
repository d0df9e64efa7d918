-- Worked rows: each test fails alone, and of two that fail the first gives the flag.
use Rattle.std.proofs.Common.{◌≡◌, true, false, List, [], ◌∷◌, Option, refl}
use Rattle.std.specs.Prelude.{codes}
use Rattle.std.specs.Str.{bytes_eq}
use Rattle.transaction.specs.declared.item.Item.{Item}
use Rattle.transaction.specs.declared.transaction.KeyVersion.{KeyVersion}
use Rattle.transaction.specs.declared.transaction.Range.{Range}
use Rattle.transaction.specs.declared.transaction.Tx.{Tx}
use Rattle.policy_eval.specs.Accepts.{Accepts}
use Rattle.rules.specs.declared.flag.Flag.TheVariants.{Valid, BadCreatorSignature, BadProposalTxId, DuplicateTxId, EndorsementPolicyFailure, MvccReadConflict, PhantomReadConflict, TargetChainNotFound, BadRwset, InvalidChaincode}
use Rattle.rules.specs.State.{with_changes}
use Rattle.rules.proofs.rows.Shared.{k, at, read_at, absent, found, put, set_of, over, reading, scanning, writing, tx, channel, an_id, writes_k, zz}
use Rattle.theorem.specs.Serial.{SoFar, all_taken, after_items}
use Rattle.theorem.proofs.rows.Looks.{uses, scans}
use Rattle.theorem.proofs.rows.Ledger.{ledger_1, executed, by_nobody, by_one, second_id}

-- ---- origin: a verifier that accepts only the empty signature

abbrev only_empty : Accepts
only_empty who message signature = bytes_eq signature []

abbrev signed_so : List (Option Item) → SoFar
signed_so items = after_items channel only_empty ledger_1 items

abbrev badly_signed : Tx
badly_signed = record writes_k { signature = 1 ∷ [] }

pub other_channel : (signed_so (by_one (record writes_k { channel = codes "other" }) ∷ [])).flags ≡ TargetChainNotFound ∷ []
unfolding all_taken
other_channel = refl

pub channel_before_signature : (signed_so (by_one (record badly_signed { channel = codes "other" }) ∷ [])).flags ≡ TargetChainNotFound ∷ []
unfolding all_taken
channel_before_signature = refl

-- its id isn't used
pub bad_signature : (signed_so (by_one badly_signed ∷ by_one writes_k ∷ [])).flags ≡ BadCreatorSignature ∷ Valid ∷ []
unfolding all_taken with_changes
bad_signature = simp uses refl

pub signature_before_id : (signed_so (by_one (record badly_signed { id = codes "x" }) ∷ [])).flags ≡ BadCreatorSignature ∷ []
unfolding all_taken
signature_before_id = refl

-- given that `x` isn't the id
pub wrong_id : bytes_eq (codes "x") an_id ≡ false → (executed (by_one (record writes_k { id = codes "x" }) ∷ by_one writes_k ∷ [])).flags ≡ BadProposalTxId ∷ Valid ∷ []
unfolding all_taken with_changes
wrong_id apart = simp (apart, uses) refl

-- the second has the nonce of another id
pub wrong_id_before_used_id : bytes_eq an_id second_id ≡ false → (executed (by_one writes_k ∷ by_one (record writes_k { nonce = codes "n2" }) ∷ [])).flags ≡ Valid ∷ BadProposalTxId ∷ []
unfolding all_taken with_changes
wrong_id_before_used_id apart = simp (apart, uses) refl

-- ---- content

abbrev writes_k_twice : Tx
writes_k_twice = writing (put k ∷ put k ∷ [])

pub used_id_before_form : (executed (by_one writes_k ∷ by_one writes_k_twice ∷ [])).flags ≡ Valid ∷ DuplicateTxId ∷ []
unfolding all_taken with_changes
used_id_before_form = simp uses refl

pub out_of_form : (executed (by_one writes_k_twice ∷ [])).flags ≡ BadRwset ∷ []
unfolding all_taken
out_of_form = simp uses refl

pub form_before_chaincode : (executed (by_one (over (set_of zz [] [] (put k ∷ put k ∷ []) [] ∷ [])) ∷ [])).flags ≡ BadRwset ∷ []
unfolding all_taken
form_before_chaincode = simp uses refl

abbrev writes_undefined : Tx
writes_undefined = over (set_of zz [] [] (put k ∷ []) [] ∷ [])

pub undefined : (executed (by_one writes_undefined ∷ [])).flags ≡ InvalidChaincode ∷ []
unfolding all_taken
undefined = simp uses refl

pub chaincode_before_endorsement : (executed (by_nobody writes_undefined ∷ [])).flags ≡ InvalidChaincode ∷ []
unfolding all_taken
chaincode_before_endorsement = simp uses refl

-- ---- endorsement and reads

pub not_endorsed : (executed (by_nobody writes_k ∷ [])).flags ≡ EndorsementPolicyFailure ∷ []
unfolding all_taken
not_endorsed = simp uses refl

pub endorsement_before_reads : (executed (by_nobody (reading (read_at k (at 7 7) ∷ [])) ∷ [])).flags ≡ EndorsementPolicyFailure ∷ []
unfolding all_taken
endorsement_before_reads = simp uses refl

pub fresh : (executed (by_one (reading (read_at k (at 0 0) ∷ [])) ∷ [])).flags ≡ Valid ∷ []
unfolding all_taken with_changes
fresh = simp uses refl

pub stale : (executed (by_one (reading (read_at k (at 7 7) ∷ [])) ∷ [])).flags ≡ MvccReadConflict ∷ []
unfolding all_taken
stale = simp uses refl

pub absent_but_there : (executed (by_one (reading (absent k ∷ [])) ∷ [])).flags ≡ MvccReadConflict ∷ []
unfolding all_taken
absent_but_there = simp uses refl

-- from a to before z, read to its end
abbrev a_to_z : List KeyVersion → Range
a_to_z results = record { start = codes "a"; end = codes "z"; exhausted = true; results = results }

pub range_as_it_is : (executed (by_one (scanning (a_to_z (found k (at 0 0) ∷ []))) ∷ [])).flags ≡ Valid ∷ []
unfolding all_taken with_changes
range_as_it_is = simp (scans, uses) refl

pub phantom : (executed (by_one (scanning (a_to_z [])) ∷ [])).flags ≡ PhantomReadConflict ∷ []
unfolding all_taken
phantom = simp (scans, uses) refl

pub read_before_range : (executed (by_one (tx (read_at k (at 7 7) ∷ []) (a_to_z [] ∷ []) [] []) ∷ [])).flags ≡ MvccReadConflict ∷ []
unfolding all_taken
read_before_range = simp (scans, uses) refl
