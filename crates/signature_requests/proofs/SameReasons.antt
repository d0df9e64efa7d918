-- Verifiers that agree on the requests of items give each the same reason.
use Rattle.std.proofs.Common.{◌≡◌, ℕ, zero, suc, ◌+◌, ◌==◌, not, cond, List, [], ◌∷◌, length, take, Option, Some, None, refl, sym, ap, subst, ◌∙◌}
use Rattle.std.specs.Prelude.{nat_lt, option_to_list}
use Rattle.std.specs.Str.{bytes_eq}
use Rattle.std.specs.List.{list_any, position, position_or_len}
use Rattle.transaction.specs.declared.identity.Identity.{Identity}
use Rattle.transaction.specs.declared.update.Update.{Update}
use Rattle.transaction.specs.declared.item.Item.{Item}
use Rattle.transaction.specs.declared.item.Item.TheVariants as item
use Rattle.policy_eval.specs.Accepts.{Accepts}
use Rattle.policy_eval.specs.Signers.{signers_of}
use Rattle.channel.specs.Configuration.{Configuration}
use Rattle.rules.specs.Candidate.{origin_of}
use Rattle.rules.specs.Job.{Job}
use Rattle.rules.specs.Fold.{flag}
use Rattle.rules.specs.World.{World}
use Rattle.rules.specs.Commit.{channel_in, job_of}
use Rattle.reasons.specs.declared.id_use.IdUse.{IdUse}
use Rattle.reasons.specs.declared.id_use.IdUse.TheVariants.{Earlier, Here}
use Rattle.reasons.specs.declared.update_fault.UpdateFault.{UpdateFault}
use Rattle.reasons.specs.declared.update_fault.UpdateFault.TheVariants.{NotAlone, NoAdminPolicy, NoDefinition, NoPolicy, AdminUnsatisfied}
use Rattle.reasons.specs.declared.reason.Reason.{Reason}
use Rattle.reasons.specs.declared.reason.Reason.TheVariants.{NoFault, NoTransaction, BadSignature, InvalidUpdate, OtherId, UsedId, NotEndorsed, ReadConflict, PhantomConflict, OtherChannel, NotInForm, Undefined}
use Rattle.reasons.specs.Identity.{uses_id, IsFirstUse}
use Rattle.reasons.specs.Shortfall.{shortfall_of}
use Rattle.reasons.specs.Endorsement.{IsEndorsementFault}
use Rattle.reasons.specs.Reads.{IsStaleRead}
use Rattle.reasons.specs.Ranges.{IsPhantomKey}
use Rattle.reasons.specs.Update.{IsUpdateFault}
use Rattle.reasons.specs.Reason.{item_at, Explains, IsReason, AreReasons}
use Rattle.signature_requests.specs.Requests.{requests_of, requests_in}
use Rattle.signature_requests.specs.Agreement.{AgreeOn}
use Rattle.signature_requests.proofs.Agreeing.{agree-front, agree-behind, signers-same, update_signers-same, id-same, job-same}

module _ (accepts others : Accepts) where
  -- those who agree on the requests of all items agree on those of one
  agree-at : (items : List (Option Item)) (i : ℕ) (x : Item) → AgreeOn accepts others (requests_in items) → item_at items i ≡ Some x → AgreeOn accepts others (requests_of (Some x))
  agree-at [] i x agree is = absurd cc
  agree-at (y ∷ items) zero x agree is = subst (λ (z : Option Item). AgreeOn accepts others (requests_of z)) is (agree-front accepts others (requests_of y) (requests_in items) agree)
  agree-at (y ∷ items) (suc i) x agree is = agree-at items i x (agree-behind accepts others (requests_of y) (requests_in items) agree) is

  -- ---- the first place that uses an id

  first_user-same : (channel : Configuration) (id : List ℕ) (items : List (Option Item)) (i : ℕ) → AgreeOn accepts others (requests_in items)
      → position_or_len (uses_id channel accepts id) (take i items) ≡ position_or_len (uses_id channel others id) (take i items)
  first_user-same channel id [] zero agree = refl
  first_user-same channel id [] (suc i) agree = refl
  first_user-same channel id (x ∷ items) zero agree = refl
  first_user-same channel id (x ∷ items) (suc i) agree =
      let own = id-same accepts others channel x (agree-front accepts others (requests_of x) (requests_in items) agree) in
      let rest = first_user-same channel id items i (agree-behind accepts others (requests_of x) (requests_in items) agree) in
      λ k. cond (not (list_any (bytes_eq id) (option_to_list (own k)))) (1 + rest k) 0

  place-same : (channel : Configuration) (id : List ℕ) (items : List (Option Item)) (i : ℕ) → AgreeOn accepts others (requests_in items)
      → position (uses_id channel accepts id) (take i items) ≡ position (uses_id channel others id) (take i items)
  place-same channel id items i agree = ap (λ (n : ℕ). cond (nat_lt n (length (take i items))) (Some n) None) (first_user-same channel id items i agree)

module _ (channel : Configuration) (accepts others : Accepts) (w : World) (items : List (Option Item)) (agree : AgreeOn accepts others (requests_in items)) where
  same : job_of channel accepts w items ≡ job_of channel others w items
  same = job-same accepts others channel w items agree

  first_use-same : (i : ℕ) (id : List ℕ) (there : IdUse) → IsFirstUse channel accepts w items i id there → IsFirstUse channel others w items i id there
  first_use-same i id (Earlier block place given) is = is
  first_use-same i id (Here place given) is = (is.0, sym (place-same accepts others channel id items i agree) ∙ is.1, is.2 ∙ ap (λ (j : Job). flag j place) same)

  update_fault-same : (u : Update) (fault : UpdateFault) → AgreeOn accepts others (requests_of (Some (item.Update u)))
      → IsUpdateFault (channel_in channel w) accepts (length items == 1) u fault → IsUpdateFault (channel_in channel w) others (length items == 1) u fault
  update_fault-same u NotAlone here is = is
  update_fault-same u NoAdminPolicy here is = is
  update_fault-same u (NoDefinition chaincode) here is = is
  update_fault-same u (NoPolicy fault) here is = is
  update_fault-same u (AdminUnsatisfied x) here is = (is.0, is.1, is.2 ∙ ap (λ (signers : List Identity). shortfall_of u.endorsements signers x.policy) (update_signers-same accepts others u here))

  why-same : (i : ℕ) (reason : Reason) → Explains channel accepts w items i reason → Explains channel others w items i reason
  why-same i NoFault why = why
  why-same i NoTransaction why = why
  why-same i (BadSignature creator) why = why
  why-same i (OtherChannel name) why = why
  why-same i (OtherId wanted) why = why
  why-same i (NotInForm fault) why = why
  why-same i (Undefined chaincode) why = why
  why-same i (UsedId place) why = (why.0, why.1, first_use-same i (origin_of why.0).id place why.2)
  why-same i (InvalidUpdate fault) why = (why.0, why.1, update_fault-same why.0 fault (agree-at accepts others items i (item.Update why.0) agree why.1) why.2)
  why-same i (NotEndorsed fault) why =
      let signers = signers-same accepts others why.0 (agree-at accepts others items i (item.Tx why.0) agree why.1) in (
        why.0,
        why.1,
        subst (λ (ss : List Identity). IsEndorsementFault (job_of channel others w items) i why.0 ss fault) signers (
            subst (λ (j : Job). IsEndorsementFault j i why.0 (signers_of accepts why.0) fault) same why.2),
      )
  why-same i (ReadConflict read) why = (why.0, why.1, subst (λ (j : Job). IsStaleRead j i why.0 read) same why.2)
  why-same i (PhantomConflict key) why = (why.0, why.1, subst (λ (j : Job). IsPhantomKey j i why.0 key) same why.2)

  pub reason-same : (i : ℕ) (reason : Reason) → IsReason channel accepts w items i reason → IsReason channel others w items i reason
  reason-same i reason is = record { place = is.place; flag_is = sym (ap (λ (j : Job). flag j i) same) ∙ is.flag_is; why = why-same i reason is.why }

  pub reasons-same : (reasons : List Reason) → AreReasons channel accepts w items reasons → AreReasons channel others w items reasons
  reasons-same reasons are = record { count = are.count; each = λ i reason found. reason-same i reason (are.each i reason found) }
