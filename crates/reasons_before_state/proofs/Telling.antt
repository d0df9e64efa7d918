-- What an item tells is the reason that there is.
use Rattle.std.proofs.Common.{◌≡◌, ℕ, ◌==◌, List, length, map, Option, Some, None, sym, ap, subst, ◌∙◌}
use Rattle.std.specs.Prelude.{is_none, option_map}
use Rattle.std.proofs.lemmas.List.{length-map}
use Rattle.transaction.specs.declared.identity.Identity.{Identity}
use Rattle.transaction.specs.declared.transaction.Tx.{Tx}
use Rattle.transaction.specs.declared.update.Update.{Update}
use Rattle.transaction.specs.declared.item.Item.{Item}
use Rattle.transaction.specs.declared.item.Item.TheVariants as item
use Rattle.policy_eval.specs.Accepts.{Accepts}
use Rattle.channel.specs.Configuration.{Configuration}
use Rattle.rules.specs.declared.early_flag.EarlyFlag.{EarlyFlag}
use Rattle.rules.specs.declared.early_flag.EarlyFlag.TheVariants as early
use Rattle.rules.specs.declared.flag.Flag.TheVariants.{BadCreatorSignature, BadProposalTxId, DuplicateTxId, TargetChainNotFound, InvalidConfigTransaction, BadRwset, InvalidChaincode}
use Rattle.rules.specs.Flags as flags
use Rattle.rules.specs.Candidate.{Candidate, flagged, used_id, origin_of}
use Rattle.rules.specs.Job.{candidate_at, flag_by, reads}
use Rattle.rules.specs.Fold.{running, endorsed}
use Rattle.rules.specs.Commit.{channel_in, job_of}
use Rattle.rules.specs.World.{World}
use Rattle.reasons.specs.declared.reason.Reason.{Reason}
use Rattle.reasons.specs.declared.reason.Reason.TheVariants.{BadSignature, OtherId, UsedId, OtherChannel, InvalidUpdate, NotInForm, Undefined}
use Rattle.reasons.specs.declared.id_use.IdUse.{IdUse}
use Rattle.reasons.specs.declared.update_fault.UpdateFault.{UpdateFault}
use Rattle.reasons.specs.declared.update_fault.UpdateFault.TheVariants.{NotAlone, NoAdminPolicy, NoDefinition, NoPolicy, AdminUnsatisfied}
use Rattle.reasons.specs.Form.{form_fault}
use Rattle.reasons.specs.Identity.{wanted_id, IsFirstUse, first_undefined}
use Rattle.reasons.specs.Update.{unsigned_fault, IsUpdateFault}
use Rattle.reasons.specs.Reason.{flag_of, item_at, OfItem, OfTx, OfUpdate, Explains, IsReason}
use Rattle.reasons.proofs.Updates.{none_if_may}
use Rattle.reasons.proofs.Unsatisfied.{update_at}
use Rattle.reasons_before_state.proofs.Inverted.{of_flag}

some_is : {X : Type 0} (x y : X) → Some x ≡ Some y → x ≡ y
some_is x y e = cc

-- a candidate that was flagged so has a reason of this flag
pub early_reason : (channel : Configuration) (accepts : Accepts) (w : World) (items : List (Option Item)) (i : ℕ) (f : EarlyFlag) (r : Reason) → candidate_at (job_of channel accepts w items) i ≡ flagged f
    → IsReason channel accepts w items i r → flag_of r ≡ flags.flag_of f
early_reason channel accepts w items i f r is reason =
    let j = job_of channel accepts w items in
    sym reason.flag_is ∙ ap (λ (c : Candidate). flag_by c (endorsed j i) (reads j i (running j i).state)) is

module _ (channel : Configuration) (accepts : Accepts) (w : World) (items : List (Option Item)) (i : ℕ) (x : Item) (is : item_at items i ≡ Some x) where
  explained : (r s : Reason) → r ≡ s → Explains channel accepts w items i r → Explains channel accepts w items i s
  explained r s e why = subst (λ (y : Reason). Explains channel accepts w items i y) e why

  of_item : (P : Item → Type 0) → OfItem items i P → P x
  of_item P of = subst P (some_is of.0 x (sym of.1 ∙ is)) of.2

  as_tx : (tx : Tx) → item_at items i ≡ Some (item.Tx tx) → x ≡ item.Tx tx
  as_tx tx at = some_is x (item.Tx tx) (sym is ∙ at)

  as_update : (u : Update) → item_at items i ≡ Some (item.Update u) → x ≡ item.Update u
  as_update u at = some_is x (item.Update u) (sym is ∙ at)

  pub tells_channel : (r : Reason) → flag_of r ≡ TargetChainNotFound → Explains channel accepts w items i r → Some (OtherChannel (origin_of x).channel) ≡ Some r
  tells_channel r f why =
      let k = of_flag r TargetChainNotFound f in
      let name : k.0 ≡ (origin_of x).channel = of_item (λ y. k.0 ≡ (origin_of y).channel) (explained r (OtherChannel k.0) k.1 why) in
      ap (λ (n : List ℕ). Some (OtherChannel n)) (sym name) ∙ ap (λ (y : Reason). Some y) (sym k.1)

  pub tells_creator : (r : Reason) → flag_of r ≡ BadCreatorSignature → Explains channel accepts w items i r → Some (BadSignature (origin_of x).creator) ≡ Some r
  tells_creator r f why =
      let k = of_flag r BadCreatorSignature f in
      let creator : k.0 ≡ (origin_of x).creator = of_item (λ y. k.0 ≡ (origin_of y).creator) (explained r (BadSignature k.0) k.1 why) in
      ap (λ (c : Identity). Some (BadSignature c)) (sym creator) ∙ ap (λ (y : Reason). Some y) (sym k.1)

  pub tells_id : (r : Reason) → flag_of r ≡ BadProposalTxId → Explains channel accepts w items i r → Some (OtherId (wanted_id x)) ≡ Some r
  tells_id r f why =
      let k = of_flag r BadProposalTxId f in
      let id : k.0 ≡ wanted_id x = of_item (λ y. k.0 ≡ wanted_id y) (explained r (OtherId k.0) k.1 why) in
      ap (λ (n : List ℕ). Some (OtherId n)) (sym id) ∙ ap (λ (y : Reason). Some y) (sym k.1)

  pub tells_use : (o : Option IdUse) → ((p : IdUse) → IsFirstUse channel accepts w items i (origin_of x).id p → o ≡ Some p) → (r : Reason) → flag_of r ≡ DuplicateTxId → Explains channel accepts w items i r
      → option_map UsedId o ≡ Some r
  tells_use o found r f why =
      let k = of_flag r DuplicateTxId f in
      let first : IsFirstUse channel accepts w items i (origin_of x).id k.0 = of_item (λ y. IsFirstUse channel accepts w items i (origin_of y).id k.0) (explained r (UsedId k.0) k.1 why) in
      ap (option_map UsedId) (found k.0 first) ∙ ap (λ (y : Reason). Some y) (sym k.1)

  -- ---- what a transaction alone has

  pub tells_form : (o : Option Reason) → ((tx : Tx) → x ≡ item.Tx tx → o ≡ option_map NotInForm (form_fault tx)) → (r : Reason) → flag_of r ≡ BadRwset → Explains channel accepts w items i r → o ≡ Some r
  tells_form o told r f why =
      let k = of_flag r BadRwset f in
      let of : OfTx items i (λ t. form_fault t ≡ Some k.0) = explained r (NotInForm k.0) k.1 why in
      told of.0 (as_tx of.0 of.1) ∙ ap (option_map NotInForm) of.2 ∙ ap (λ (y : Reason). Some y) (sym k.1)

  pub tells_name : (o : Option Reason) → ((tx : Tx) → x ≡ item.Tx tx → o ≡ option_map Undefined (first_undefined w.definitions tx)) → (r : Reason) → flag_of r ≡ InvalidChaincode → Explains channel accepts w items i r → o ≡ Some r
  tells_name o told r f why =
      let k = of_flag r InvalidChaincode f in
      let of : OfTx items i (λ t. first_undefined w.definitions t ≡ Some k.0) = explained r (Undefined k.0) k.1 why in
      told of.0 (as_tx of.0 of.1) ∙ ap (option_map Undefined) of.2 ∙ ap (λ (y : Reason). Some y) (sym k.1)

  -- ---- an update

  -- the fault of one that was flagged shows without its signers
  shows : (u : Update) (f : UpdateFault) → (unsigned_fault (channel_in channel w) (length items == 1) u ≡ None → ⊥) → IsUpdateFault (channel_in channel w) accepts (length items == 1) u f
      → unsigned_fault (channel_in channel w) (length items == 1) u ≡ Some f
  shows u NotAlone there is_fault = is_fault
  shows u NoAdminPolicy there is_fault = is_fault
  shows u (NoDefinition name) there is_fault = is_fault
  shows u (NoPolicy fault) there is_fault = is_fault
  shows u (AdminUnsatisfied lack) there is_fault = absurd (there is_fault.0)

  open_otherwise : candidate_at (job_of channel accepts w items) i ≡ flagged early.InvalidConfigTransaction → (u : Update) → item_at items i ≡ Some (item.Update u)
      → unsigned_fault (channel_in channel w) (length items == 1) u ≡ None → ⊥
  open_otherwise early_so u at e =
      let j = job_of channel accepts w items in
      let opens = update_at channel accepts w items i u at (sym (none_if_may (channel_in channel w) (length items == 1) u) ∙ ap is_none e)
      (ap (λ (c : Candidate). flag_by c (endorsed j i) (reads j i (running j i).state)) early_so) in
      absurd (cc (early_so, opens))

  pub tells_update : (ids : List (Option (List ℕ))) → ids ≡ map (used_id channel accepts) items → candidate_at (job_of channel accepts w items) i ≡ flagged early.InvalidConfigTransaction
      → (o : Option Reason) → ((u : Update) → x ≡ item.Update u → o ≡ option_map InvalidUpdate (unsigned_fault (channel_in channel w) (length ids == 1) u))
      → (r : Reason) → flag_of r ≡ InvalidConfigTransaction → Explains channel accepts w items i r → o ≡ Some r
  tells_update ids same early_so o told r f why =
      let k = of_flag r InvalidConfigTransaction f in
      let of : OfUpdate items i (λ u. IsUpdateFault (channel_in channel w) accepts (length items == 1) u k.0) = explained r (InvalidUpdate k.0) k.1 why in
      let count : length ids ≡ length items = ap (λ (l : List (Option (List ℕ))). length l) same ∙ length-map items (used_id channel accepts) in
      told of.0 (as_update of.0 of.1)
      ∙ ap (λ (n : ℕ). option_map InvalidUpdate (unsigned_fault (channel_in channel w) (n == 1) of.0)) count
      ∙ ap (option_map InvalidUpdate) (shows of.0 k.0 (open_otherwise early_so of.0 of.1) of.2)
      ∙ ap (λ (y : Reason). Some y) (sym k.1)
