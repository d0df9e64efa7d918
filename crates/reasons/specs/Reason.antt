-- Why a transaction or an update has its flag.
use Rattle.std.specs.Prelude.{◌≡◌, ℕ, ◌<◌, ◌==◌, List, length, Option, Some, None, slice_get, slice_index_or, ⊤}
use Rattle.transaction.specs.declared.transaction.Tx.{Tx}
use Rattle.transaction.specs.declared.update.Update.{Update}
use Rattle.transaction.specs.declared.item.Item.{Item}
use Rattle.transaction.specs.declared.item.Item.TheVariants as item
use Rattle.policy_eval.specs.Accepts.{Accepts}
use Rattle.policy_eval.specs.Signers.{signers_of}
use Rattle.channel.specs.Configuration.{Configuration}
use Rattle.rules.specs.declared.flag.Flag.{Flag}
use Rattle.rules.specs.declared.flag.Flag.TheVariants.{Valid, BadPayload, BadCreatorSignature, InvalidConfigTransaction, BadProposalTxId, DuplicateTxId, EndorsementPolicyFailure, MvccReadConflict, PhantomReadConflict, TargetChainNotFound, BadRwset, InvalidChaincode}
use Rattle.rules.specs.Fold.{flag}
use Rattle.rules.specs.Candidate.{origin_of}
use Rattle.rules.specs.Commit.{channel_in, job_of}
use Rattle.rules.specs.World.{World}
use Rattle.reasons.specs.declared.reason.Reason.{Reason}
use Rattle.reasons.specs.declared.reason.Reason.TheVariants.{NoFault, NoTransaction, BadSignature, InvalidUpdate, OtherId, UsedId, NotEndorsed, ReadConflict, PhantomConflict, OtherChannel, NotInForm, Undefined}
use Rattle.reasons.specs.Form.{form_fault}
use Rattle.reasons.specs.Identity.{wanted_id, IsFirstUse, first_undefined}
use Rattle.reasons.specs.Endorsement.{IsEndorsementFault}
use Rattle.reasons.specs.Reads.{IsStaleRead}
use Rattle.reasons.specs.Ranges.{IsPhantomKey}
use Rattle.reasons.specs.Update.{IsUpdateFault}

-- the flag that it is the reason of
abbrev pub flag_of : Reason → Flag
flag_of NoFault = Valid
flag_of NoTransaction = BadPayload
flag_of (BadSignature creator) = BadCreatorSignature
flag_of (InvalidUpdate fault) = InvalidConfigTransaction
flag_of (OtherId wanted) = BadProposalTxId
flag_of (UsedId place) = DuplicateTxId
flag_of (NotEndorsed fault) = EndorsementPolicyFailure
flag_of (ReadConflict read) = MvccReadConflict
flag_of (PhantomConflict key) = PhantomReadConflict
flag_of (OtherChannel channel) = TargetChainNotFound
flag_of (NotInForm fault) = BadRwset
flag_of (Undefined chaincode) = InvalidChaincode

-- the item of place i, none where its bytes spell none
abbrev pub item_at : List (Option Item) → ℕ → Option Item
item_at items i = slice_index_or items i None

-- there is an item, a transaction or an update at place i of which this holds
abbrev pub OfItem : List (Option Item) → ℕ → (Item → Type 0) → Type 0
OfItem items i P = (x : Item) × (item_at items i ≡ Some x) × P x

abbrev pub OfTx : List (Option Item) → ℕ → (Tx → Type 0) → Type 0
OfTx items i P = (tx : Tx) × (item_at items i ≡ Some (item.Tx tx)) × P tx

abbrev pub OfUpdate : List (Option Item) → ℕ → (Update → Type 0) → Type 0
OfUpdate items i P = (u : Update) × (item_at items i ≡ Some (item.Update u)) × P u

-- What a reason says beside the flag, of place i.
abbrev pub Explains : Configuration → Accepts → World → List (Option Item) → ℕ → Reason → Type 0
Explains channel accepts w items i NoFault = ⊤
Explains channel accepts w items i NoTransaction = ⊤
Explains channel accepts w items i (BadSignature creator) = OfItem items i (λ x. creator ≡ (origin_of x).creator)
Explains channel accepts w items i (OtherChannel name) = OfItem items i (λ x. name ≡ (origin_of x).channel)
Explains channel accepts w items i (OtherId wanted) = OfItem items i (λ x. wanted ≡ wanted_id x)
Explains channel accepts w items i (UsedId place) = OfItem items i (λ x. IsFirstUse channel accepts w items i (origin_of x).id place)
Explains channel accepts w items i (InvalidUpdate fault) = OfUpdate items i (λ u. IsUpdateFault (channel_in channel w) accepts (length items == 1) u fault)
Explains channel accepts w items i (NotInForm fault) = OfTx items i (λ tx. form_fault tx ≡ Some fault)
Explains channel accepts w items i (Undefined chaincode) = OfTx items i (λ tx. first_undefined w.definitions tx ≡ Some chaincode)
Explains channel accepts w items i (NotEndorsed fault) = OfTx items i (λ tx. IsEndorsementFault (job_of channel accepts w items) i tx (signers_of accepts tx) fault)
Explains channel accepts w items i (ReadConflict read) = OfTx items i (λ tx. IsStaleRead (job_of channel accepts w items) i tx read)
Explains channel accepts w items i (PhantomConflict key) = OfTx items i (λ tx. IsPhantomKey (job_of channel accepts w items) i tx key)

-- The reason of place i of a block of these items over this world: the block gives the place its flag, and it says why.
pub record IsReason (channel : Configuration) (accepts : Accepts) (w : World) (items : List (Option Item)) (i : ℕ) (reason : Reason) : Type 0 where
  pub place : i < length items
  pub flag_is : flag (job_of channel accepts w items) i ≡ flag_of reason
  pub why : Explains channel accepts w items i reason

-- the reasons of all places of the block, in order
pub record AreReasons (channel : Configuration) (accepts : Accepts) (w : World) (items : List (Option Item)) (reasons : List Reason) : Type 0 where
  pub count : length reasons ≡ length items
  pub each : (i : ℕ) (reason : Reason) → slice_get reasons i ≡ Some reason → IsReason channel accepts w items i reason
