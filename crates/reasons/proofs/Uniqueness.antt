-- A place has no two reasons.
use Rattle.std.proofs.Common.{◌≡◌, ℕ, ◌==◌, length, List, Option, Some, refl, sym, ap, subst, ◌∙◌}
use Rattle.transaction.specs.declared.transaction.Tx.{Tx}
use Rattle.transaction.specs.declared.update.Update.{Update}
use Rattle.transaction.specs.declared.item.Item.{Item}
use Rattle.transaction.specs.declared.item.Item.TheVariants as item
use Rattle.policy_eval.specs.Accepts.{Accepts}
use Rattle.policy_eval.specs.Signers.{signers_of}
use Rattle.channel.specs.Configuration.{Configuration}
use Rattle.rules.specs.Job.{Job}
use Rattle.rules.specs.Commit.{channel_in, job_of}
use Rattle.rules.specs.World.{World}
use Rattle.reasons.specs.declared.reason.Reason.{Reason}
use Rattle.reasons.specs.declared.reason.Reason.TheVariants.{NoFault, NoTransaction, BadSignature, InvalidUpdate, OtherId, UsedId, NotEndorsed, ReadConflict, PhantomConflict, OtherChannel, NotInForm, Undefined}
use Rattle.reasons.specs.Form.{form_fault}
use Rattle.reasons.specs.Identity.{wanted_id, IsFirstUse, first_undefined}
use Rattle.reasons.specs.Endorsement.{IsEndorsementFault}
use Rattle.reasons.specs.Reads.{IsStaleRead}
use Rattle.reasons.specs.Ranges.{IsPhantomKey}
use Rattle.reasons.specs.Update.{IsUpdateFault}
use Rattle.rules.specs.Candidate.{origin_of}
use Rattle.reasons.specs.Reason.{flag_of, OfItem, OfTx, OfUpdate, Explains, IsReason}
use Rattle.reasons.proofs.Lists.{some_is}
use Rattle.reasons.proofs.Identity.{one_use}
use Rattle.reasons.proofs.Endorsement.{one_endorsement_fault}
use Rattle.reasons.proofs.Updates.{one_update_fault}
use Rattle.reasons.proofs.Conflicts.{one_stale_read, one_phantom_key}

same_tx : (t u : Tx) → item.Tx t ≡ item.Tx u → t ≡ u
same_tx t u e = cc

same_update : (t u : Update) → item.Update t ≡ item.Update u → t ≡ u
same_update t u e = cc

-- what is one for each transaction is one for the place
one_of : {X : Type 0} (txs : List (Option Item)) (i : ℕ) (P : X → Tx → Type 0) → ((tx : Tx) (a b : X) → P a tx → P b tx → a ≡ b) → (a b : X) → OfTx txs i (P a) → OfTx txs i (P b) → a ≡ b
one_of txs i P one a b x y = one x.0 a b x.2 (subst (P b) (sym (same_tx x.0 y.0 (some_is (item.Tx x.0) (item.Tx y.0) (sym x.1 ∙ y.1)))) y.2)

-- for each item
one_of_item : {X : Type 0} (txs : List (Option Item)) (i : ℕ) (P : X → Item → Type 0) → ((x : Item) (a b : X) → P a x → P b x → a ≡ b) → (a b : X) → OfItem txs i (P a) → OfItem txs i (P b) → a ≡ b
one_of_item txs i P one a b x y = one x.0 a b x.2 (subst (P b) (sym (some_is x.0 y.0 (sym x.1 ∙ y.1))) y.2)

-- and for each update
one_of_update : {X : Type 0} (txs : List (Option Item)) (i : ℕ) (P : X → Update → Type 0) → ((u : Update) (a b : X) → P a u → P b u → a ≡ b) → (a b : X) → OfUpdate txs i (P a) → OfUpdate txs i (P b) → a ≡ b
one_of_update txs i P one a b x y = one x.0 a b x.2 (subst (P b) (sym (same_update x.0 y.0 (some_is (item.Update x.0) (item.Update y.0) (sym x.1 ∙ y.1)))) y.2)

module _ (channel : Configuration) (accepts : Accepts) (w : World) (txs : List (Option Item)) (i : ℕ) where
  abbrev j : Job
  j = job_of channel accepts w txs

  one_explanation : (a b : Reason) → flag_of a ≡ flag_of b → Explains channel accepts w txs i a → Explains channel accepts w txs i b → a ≡ b
  one_explanation NoFault NoFault e x y = refl
  one_explanation NoTransaction NoTransaction e x y = refl
  one_explanation (BadSignature a) (BadSignature b) e x y = ap BadSignature (one_of_item txs i (λ v x. v ≡ (origin_of x).creator) (λ tx c d p q. p ∙ sym q) a b x y)
  one_explanation (OtherId a) (OtherId b) e x y = ap OtherId (one_of_item txs i (λ v tx. v ≡ wanted_id tx) (λ tx c d p q. p ∙ sym q) a b x y)
  one_explanation (UsedId a) (UsedId b) e x y = ap UsedId (one_of_item txs i (λ v x. IsFirstUse channel accepts w txs i (origin_of x).id v) (λ x c d p q. one_use channel accepts w txs i (origin_of x).id c d p q) a b x y)
  one_explanation (NotEndorsed a) (NotEndorsed b) e x y =
      ap NotEndorsed (one_of txs i (λ v tx. IsEndorsementFault j i tx (signers_of accepts tx) v) (λ tx c d p q. one_endorsement_fault j i tx (signers_of accepts tx) c d p q) a b x y)
  one_explanation (InvalidUpdate a) (InvalidUpdate b) e x y =
      ap InvalidUpdate (one_of_update txs i (λ v u. IsUpdateFault (channel_in channel w) accepts (length txs == 1) u v) (λ u c d p q. one_update_fault (channel_in channel w) accepts (length txs == 1) u c d p q) a b x y)
  one_explanation (ReadConflict a) (ReadConflict b) e x y = ap ReadConflict (one_of txs i (λ v tx. IsStaleRead j i tx v) (λ tx c d p q. one_stale_read j i tx c d p q) a b x y)
  one_explanation (PhantomConflict a) (PhantomConflict b) e x y = ap PhantomConflict (one_of txs i (λ v tx. IsPhantomKey j i tx v) (λ tx c d p q. one_phantom_key j i tx c d p q) a b x y)
  one_explanation (OtherChannel a) (OtherChannel b) e x y = ap OtherChannel (one_of_item txs i (λ v x. v ≡ (origin_of x).channel) (λ tx c d p q. p ∙ sym q) a b x y)
  one_explanation (NotInForm a) (NotInForm b) e x y = ap NotInForm (one_of txs i (λ v tx. form_fault tx ≡ Some v) (λ tx c d p q. some_is c d (sym p ∙ q)) a b x y)
  one_explanation (Undefined a) (Undefined b) e x y = ap Undefined (one_of txs i (λ v tx. first_undefined w.definitions tx ≡ Some v) (λ tx c d p q. some_is c d (sym p ∙ q)) a b x y)
  one_explanation a b e x y = absurd cc

  pub one_reason : (a b : Reason) → IsReason channel accepts w txs i a → IsReason channel accepts w txs i b → a ≡ b
  one_reason a b x y = one_explanation a b (sym x.flag_is ∙ y.flag_is) x.why y.why
