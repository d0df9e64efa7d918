-- What the rules on the state tell is the reason that there is.
use Rattle.std.proofs.Common.{◌≡◌, ℕ, List, Option, Some, None, map, refl, sym, ap, subst, ◌∙◌}
use Rattle.std.specs.Prelude.{IsTrue, IfSome, option_map}
use Rattle.transaction.specs.declared.identity.Identity.{Identity}
use Rattle.transaction.specs.declared.transaction.Tx.{Tx}
use Rattle.transaction.specs.declared.item.Item.{Item}
use Rattle.transaction.specs.declared.item.Item.TheVariants as item
use Rattle.policy_eval.specs.Accepts.{Accepts}
use Rattle.policy_eval.specs.Signers.{signers_of}
use Rattle.channel.specs.Configuration.{Configuration}
use Rattle.rules.specs.declared.flag.Flag.TheVariants.{EndorsementPolicyFailure, MvccReadConflict, PhantomReadConflict}
use Rattle.rules.specs.ReadWriteSets.{is_in_form}
use Rattle.rules.specs.Candidate.{opened}
use Rattle.rules.specs.Job.{Job, candidate_at}
use Rattle.rules.specs.Commit.{job_of}
use Rattle.rules.specs.World.{World}
use Rattle.rules.proofs.OpenCandidates.{sets_in_form}
use Rattle.reasons.specs.First.{first_there}
use Rattle.reasons.specs.declared.reason.Reason.{Reason}
use Rattle.reasons.specs.declared.reason.Reason.TheVariants.{NotEndorsed, ReadConflict, PhantomConflict}
use Rattle.reasons.specs.declared.endorsement_fault.EndorsementFault.{EndorsementFault}
use Rattle.reasons.specs.declared.stale_read.StaleRead.{StaleRead}
use Rattle.reasons.specs.declared.phantom_key.PhantomKey.{PhantomKey}
use Rattle.reasons.specs.Endorsement.{IsEndorsementFault}
use Rattle.reasons.specs.Reads.{IsStaleRead}
use Rattle.reasons.specs.Ranges.{IsPhantomKey}
use Rattle.reasons.specs.Reason.{flag_of, item_at, OfTx, Explains, IsReason}
use Rattle.reasons_from_state.specs.Found.{stale_in, IsFoundInSets}
use Rattle.reasons_from_state.specs.Told.{IsTheReason}
use Rattle.reasons_from_state.proofs.Conflicts.{stale_read_is_first, found_phantom}
use Rattle.reasons_before_state.proofs.Inverted.{of_flag}
use Rattle.reasons_from_state.proofs.Places.{opened_at}

-- a place has one reason
abbrev pub IsOne : Type 0
IsOne = (channel : Configuration) (accepts : Accepts) (w : World) (items : List (Option Item)) (i : ℕ) (a b : Reason) → IsReason channel accepts w items i a → IsReason channel accepts w items i b → a ≡ b

same_tx : (a b : Tx) → Some (item.Tx a) ≡ Some (item.Tx b) → a ≡ b
same_tx a b e = cc

module _ (channel : Configuration) (accepts : Accepts) (w : World) (items : List (Option Item)) (i : ℕ) (r : Reason) (reason : IsReason channel accepts w items i r) where
  abbrev j : Job
  j = job_of channel accepts w items

  why_of : (s : Reason) → r ≡ s → Explains channel accepts w items i s
  why_of s e = subst (λ (x : Reason). Explains channel accepts w items i x) e reason.why

  -- another reason of the same flag is this one
  pub same_reason : IsOne → (s : Reason) → flag_of r ≡ flag_of s → Explains channel accepts w items i s → Some s ≡ Some r
  same_reason one s f why = ap (λ (x : Reason). Some x) (one channel accepts w items i s r (record { place = reason.place; flag_is = reason.flag_is ∙ f; why = why }) reason)

  module _ (tx : Tx) (signers : List Identity) (opens : candidate_at j i ≡ opened tx signers) where
    is_tx : item_at items i ≡ Some (item.Tx tx)
    is_tx = (opened_at channel accepts w items i tx signers opens).0

    are_signers : signers ≡ signers_of accepts tx
    are_signers = (opened_at channel accepts w items i tx signers opens).1

    said : (P : Tx → Type 0) → OfTx items i P → P tx
    said P of = subst P (same_tx of.0 tx (sym of.1 ∙ is_tx)) of.2

    endorsement_told : IsOne → flag_of r ≡ EndorsementPolicyFailure → (o : Option EndorsementFault) → IfSome o (λ g. IsEndorsementFault j i tx signers g)
        → (o ≡ None → (g : EndorsementFault) → IsEndorsementFault j i tx signers g → ⊥) → option_map NotEndorsed o ≡ Some r
    endorsement_told one f (Some g) is never =
        same_reason one (NotEndorsed g) f (tx, is_tx, subst (λ (ss : List Identity). IsEndorsementFault j i tx ss g) are_signers is)
    endorsement_told one f None is never =
        let k = of_flag r EndorsementPolicyFailure f in
        let fault : IsEndorsementFault j i tx (signers_of accepts tx) k.0 = said (λ t. IsEndorsementFault j i t (signers_of accepts t) k.0) (why_of (NotEndorsed k.0) k.1) in
        absurd (never refl k.0 (subst (λ (ss : List Identity). IsEndorsementFault j i tx ss k.0) (sym are_signers) fault))

    read_told : flag_of r ≡ MvccReadConflict → (o : Option StaleRead) → o ≡ first_there (map (stale_in j i) tx.namespaces) → option_map ReadConflict o ≡ Some r
    read_told f o is =
        let k = of_flag r MvccReadConflict f in
        let stale : IsStaleRead j i tx k.0 = said (λ t. IsStaleRead j i t k.0) (why_of (ReadConflict k.0) k.1) in
        ap (option_map ReadConflict) (is ∙ stale_read_is_first j i tx k.0 stale) ∙ ap (λ (x : Reason). Some x) (sym k.1)

    phantom_told : IsOne → flag_of r ≡ PhantomReadConflict → (o : Option PhantomKey) → IsTrue (is_in_form tx) → IsFoundInSets j i tx.namespaces o → option_map PhantomConflict o ≡ Some r
    phantom_told one f o in_form found =
        let k = of_flag r PhantomReadConflict f in
        let phantom : IsPhantomKey j i tx k.0 = said (λ t. IsPhantomKey j i t k.0) (why_of (PhantomConflict k.0) k.1) in
        let it = found_phantom j i tx o k.0 (sets_in_form tx in_form) found phantom in
        ap (option_map PhantomConflict) it.1 ∙ same_reason one (PhantomConflict it.0) f (tx, is_tx, it.2)

-- ---- whatever block the job is of

module _ (j : Job) (i : ℕ) where
  pub tells_endorsement : IsOne → (tx : Tx) (signers : List Identity) → candidate_at j i ≡ opened tx signers → (o : Option EndorsementFault) → IfSome o (λ g. IsEndorsementFault j i tx signers g)
      → (o ≡ None → (g : EndorsementFault) → IsEndorsementFault j i tx signers g → ⊥) → IsTheReason j i EndorsementPolicyFailure (option_map NotEndorsed o)
  tells_endorsement one tx signers opens o is never channel accepts w items r same f reason =
      endorsement_told channel accepts w items i r reason tx signers (subst (λ (k : Job). candidate_at k i ≡ opened tx signers) same opens) one f o
      (subst (λ (k : Job). IfSome o (λ g. IsEndorsementFault k i tx signers g)) same is)
      (subst (λ (k : Job). o ≡ None → (g : EndorsementFault) → IsEndorsementFault k i tx signers g → ⊥) same never)

  pub tells_read : (tx : Tx) (signers : List Identity) → candidate_at j i ≡ opened tx signers → (o : Option StaleRead) → o ≡ first_there (map (stale_in j i) tx.namespaces)
      → IsTheReason j i MvccReadConflict (option_map ReadConflict o)
  tells_read tx signers opens o is channel accepts w items r same f reason =
      read_told channel accepts w items i r reason tx signers (subst (λ (k : Job). candidate_at k i ≡ opened tx signers) same opens) f o
      (subst (λ (k : Job). o ≡ first_there (map (stale_in k i) tx.namespaces)) same is)

  pub tells_phantom : IsOne → (tx : Tx) (signers : List Identity) → candidate_at j i ≡ opened tx signers → IsTrue (is_in_form tx) → (o : Option PhantomKey) → IsFoundInSets j i tx.namespaces o
      → IsTheReason j i PhantomReadConflict (option_map PhantomConflict o)
  tells_phantom one tx signers opens in_form o found channel accepts w items r same f reason =
      phantom_told channel accepts w items i r reason tx signers (subst (λ (k : Job). candidate_at k i ≡ opened tx signers) same opens) one f o in_form
      (subst (λ (k : Job). IsFoundInSets k i tx.namespaces o) same found)
