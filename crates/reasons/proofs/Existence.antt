-- Each place of a block has a reason.
use Rattle.std.proofs.Common.{◌≡◌, ℕ, ◌==◌, ◌<◌, Bool, true, false, ◌∷◌, [], List, length, take, Option, Some, None, refl, sym, ap, ◌∙◌}
use Rattle.std.specs.Prelude.{is_none, if◌then◌else◌}
use Rattle.std.specs.Str.{bytes_eq}
use Rattle.transaction.specs.declared.transaction.Tx.{Tx}
use Rattle.transaction.specs.declared.update.Update.{Update}
use Rattle.transaction.specs.declared.item.Item.{Item}
use Rattle.transaction.specs.declared.item.Item.TheVariants as item
use Rattle.transaction.specs.Grammar.{identity_bytes, signed_bytes}
use Rattle.header_hash.specs.Hashes.{tx_id_of}
use Rattle.policy_eval.specs.Accepts.{Accepts}
use Rattle.policy_eval.specs.Signers.{signers_of}
use Rattle.policy_eval.specs.UpdateSigners.{update_signers_of}
use Rattle.transaction.specs.UpdateGrammar.{update_signed_bytes}
use Rattle.channel.specs.Configuration.{Configuration}
use Rattle.rules.specs.declared.early_flag.EarlyFlag.TheVariants.{BadCreatorSignature, BadProposalTxId, TargetChainNotFound}
use Rattle.rules.specs.declared.flag.Flag.TheVariants.{EndorsementPolicyFailure, InvalidConfigTransaction}
use Rattle.rules.specs.declared.read_verdict.ReadVerdict.{ReadVerdict}
use Rattle.rules.specs.declared.read_verdict.ReadVerdict.TheVariants.{Good, Stale, Phantom}
use Rattle.rules.specs.ReadWriteSets.{is_in_form}
use Rattle.rules.specs.Reads.{read_verdict}
use Rattle.rules.specs.Candidate.{Candidate, opened, updates, first_failed, may_update, candidate_of, used_id, is_used, is_all_defined}
use Rattle.rules.specs.Job.{Job, candidate_at, flag_by, open_flag, reads, reads_by}
use Rattle.rules.specs.Fold.{running, endorsed, flag}
use Rattle.rules.specs.Commit.{channel_in, job_of}
use Rattle.rules.specs.World.{World}
use Rattle.rules.proofs.Candidates.{ids_of}
use Rattle.reasons.specs.declared.reason.Reason.{Reason}
use Rattle.reasons.specs.declared.reason.Reason.TheVariants.{NoFault, NoTransaction, BadSignature, InvalidUpdate, OtherId, UsedId, NotEndorsed, ReadConflict, PhantomConflict, OtherChannel, NotInForm, Undefined}
use Rattle.reasons.specs.Identity.{wanted_id}
use Rattle.reasons.specs.Reason.{flag_of, item_at, Explains, IsReason}
use Rattle.reasons.proofs.Form.{form_fault_if}
use Rattle.reasons.proofs.Identity.{first_use_if, undefined_if}
use Rattle.reasons.proofs.Endorsement.{endorsement_fault_if}
use Rattle.reasons.proofs.Conflicts.{stale_read_if, phantom_key_if}
use Rattle.reasons.proofs.Places.{tested, tested_update, candidate-at}
use Rattle.reasons.proofs.Updates.{unsigned_fault_if, signed_fault_if}

module _ (channel : Configuration) (accepts : Accepts) (w : World) (txs : List (Option Item)) (i : ℕ) (inside : i < length txs) where
  abbrev j : Job
  j = job_of channel accepts w txs

  abbrev HasReason : Type 0
  HasReason = (reason : Reason) × IsReason channel accepts w txs i reason

  flag-at : (c : Candidate) → candidate_at j i ≡ c → flag j i ≡ flag_by c (endorsed j i) (reads j i (running j i).state)
  flag-at c e = ap (λ (x : Candidate). flag_by x (endorsed j i) (reads j i (running j i).state)) e

  made : (reason : Reason) → flag j i ≡ flag_of reason → Explains channel accepts w txs i reason → HasReason
  made reason f e = (reason, record { place = inside; flag_is = f; why = e })

  -- ---- an open candidate

  module _ (tx : Tx) (is : item_at txs i ≡ Some (item.Tx tx)) (in_form : is_in_form tx ≡ true) (defined : is_all_defined w.definitions tx ≡ true) (e : candidate_at j i ≡ opened tx (signers_of accepts tx)) where
    open_flag-at : (b : Bool) → endorsed j i ≡ b → (v : ReadVerdict) → read_verdict (running j i).state tx ≡ v → flag j i ≡ open_flag EndorsementPolicyFailure b v
    open_flag-at b p v q =
        let read : reads j i (running j i).state ≡ v = ap (reads_by (running j i).state) e ∙ q in
        flag-at (opened tx (signers_of accepts tx)) e ∙ (λ t. open_flag EndorsementPolicyFailure (p t) (read t))

    by_rules : (b : Bool) → endorsed j i ≡ b → (v : ReadVerdict) → read_verdict (running j i).state tx ≡ v → HasReason
    by_rules false p v q = let f = endorsement_fault_if j i tx (signers_of accepts tx) defined in made (NotEndorsed f.0) (open_flag-at false p v q) (tx, is, f.1)
    by_rules true p Good q = made NoFault (open_flag-at true p Good q) tt
    by_rules true p Stale q = let x = stale_read_if j i tx q in made (ReadConflict x.0) (open_flag-at true p Stale q) (tx, is, x.1)
    by_rules true p Phantom q = let x = phantom_key_if j i tx in_form q in made (PhantomConflict x.0) (open_flag-at true p Phantom q) (tx, is, x.1)

    opened_reason : HasReason
    opened_reason = by_rules (endorsed j i) refl (read_verdict (running j i).state tx) refl

  -- ---- by the tests before the state

  module _ (tx : Tx) (is : item_at txs i ≡ Some (item.Tx tx)) where
    abbrev used : Bool
    used = is_used w.first_uses (ids_of channel accepts (take i txs)) (used_id channel accepts (Some (item.Tx tx)))

    by_tests : (a b c u f d : Bool)
        → bytes_eq tx.channel channel.name ≡ a → accepts tx.creator (signed_bytes tx) tx.signature ≡ b → bytes_eq tx.id (tx_id_of tx.nonce (identity_bytes tx.creator)) ≡ c
        → used ≡ u → is_in_form tx ≡ f → is_all_defined w.definitions tx ≡ d
        → candidate_at j i ≡ tested a b c u f d (opened tx (signers_of accepts tx)) → HasReason
    by_tests false b c u f d ea eb ec eu ef ed e = made (OtherChannel tx.channel) (flag-at _ e) (item.Tx tx, is, refl)
    by_tests true false c u f d ea eb ec eu ef ed e = made (BadSignature tx.creator) (flag-at _ e) (item.Tx tx, is, refl)
    by_tests true true false u f d ea eb ec eu ef ed e = made (OtherId (wanted_id (item.Tx tx))) (flag-at _ e) (item.Tx tx, is, refl)
    by_tests true true true true f d ea eb ec eu ef ed e =
        let own : used_id channel accepts (Some (item.Tx tx)) ≡ Some tx.id = λ t. if is_none (first_failed ((ea t, TargetChainNotFound) ∷ (eb t, BadCreatorSignature) ∷ (ec t, BadProposalTxId) ∷ [])) then Some tx.id else None in
        let here = first_use_if channel accepts w txs i tx.id (ap (is_used w.first_uses (ids_of channel accepts (take i txs))) (sym own) ∙ eu) in
        made (UsedId here.0) (flag-at _ e) (item.Tx tx, is, here.1)
    by_tests true true true false false d ea eb ec eu ef ed e = let fault = form_fault_if tx ef in made (NotInForm fault.0) (flag-at _ e) (tx, is, fault.1)
    by_tests true true true false true false ea eb ec eu ef ed e = let name = undefined_if w.definitions tx ed in made (Undefined name.0) (flag-at _ e) (tx, is, name.1)
    by_tests true true true false true true ea eb ec eu ef ed e = opened_reason tx is ef ed e

  -- ---- an update

  module _ (u : Update) (is : item_at txs i ≡ Some (item.Update u)) where
    abbrev alone : Bool
    alone = length txs == 1

    abbrev here : Configuration
    here = channel_in channel w

    abbrev signed : Candidate
    signed = updates u (update_signers_of accepts u)

    by_admin : may_update here alone u ≡ true → candidate_at j i ≡ signed → (b : Bool) → endorsed j i ≡ b → HasReason
    by_admin may e false p =
        let f = signed_fault_if here accepts alone u may in
        made (InvalidUpdate f.0) (flag-at signed e ∙ ap (λ (b : Bool). open_flag InvalidConfigTransaction b (reads j i (running j i).state)) p) (u, is, f.1)
    by_admin may e true p =
        made NoFault (flag-at signed e ∙ (λ t. open_flag InvalidConfigTransaction (p t) (reads_by (running j i).state (e t)))) tt

    by_update_tests : (a b c v m : Bool)
        → bytes_eq u.channel channel.name ≡ a → accepts u.creator (update_signed_bytes u) u.signature ≡ b → bytes_eq u.id (tx_id_of u.nonce (identity_bytes u.creator)) ≡ c
        → is_used w.first_uses (ids_of channel accepts (take i txs)) (used_id channel accepts (Some (item.Update u))) ≡ v → may_update here alone u ≡ m
        → candidate_at j i ≡ tested_update a b c v m signed → HasReason
    by_update_tests false b c v m ea eb ec ev em e = made (OtherChannel u.channel) (flag-at _ e) (item.Update u, is, refl)
    by_update_tests true false c v m ea eb ec ev em e = made (BadSignature u.creator) (flag-at _ e) (item.Update u, is, refl)
    by_update_tests true true false v m ea eb ec ev em e = made (OtherId (wanted_id (item.Update u))) (flag-at _ e) (item.Update u, is, refl)
    by_update_tests true true true true m ea eb ec ev em e =
        let own : used_id channel accepts (Some (item.Update u)) ≡ Some u.id = λ t. if is_none (first_failed ((ea t, TargetChainNotFound) ∷ (eb t, BadCreatorSignature) ∷ (ec t, BadProposalTxId) ∷ [])) then Some u.id else None in
        let place = first_use_if channel accepts w txs i u.id (ap (is_used w.first_uses (ids_of channel accepts (take i txs))) (sym own) ∙ ev) in
        made (UsedId place.0) (flag-at _ e) (item.Update u, is, place.1)
    by_update_tests true true true false false ea eb ec ev em e = let f = unsigned_fault_if here accepts alone u em in made (InvalidUpdate f.0) (flag-at _ e) (u, is, f.1)
    by_update_tests true true true false true ea eb ec ev em e = by_admin em e (endorsed j i) refl

  by_item : (o : Option Item) → item_at txs i ≡ o → candidate_at j i ≡ candidate_of (channel_in channel w) accepts (length txs == 1) (is_used w.first_uses (ids_of channel accepts (take i txs)) (used_id channel accepts o)) o → HasReason
  by_item None is e = made NoTransaction (flag-at _ e) tt
  by_item (Some (item.Tx tx)) is e =
      by_tests tx is (bytes_eq tx.channel channel.name) (accepts tx.creator (signed_bytes tx) tx.signature) (bytes_eq tx.id (tx_id_of tx.nonce (identity_bytes tx.creator)))
      (is_used w.first_uses (ids_of channel accepts (take i txs)) (used_id channel accepts (Some (item.Tx tx)))) (is_in_form tx) (is_all_defined w.definitions tx) refl refl refl refl refl refl e
  by_item (Some (item.Update u)) is e =
      by_update_tests u is (bytes_eq u.channel channel.name) (accepts u.creator (update_signed_bytes u) u.signature) (bytes_eq u.id (tx_id_of u.nonce (identity_bytes u.creator)))
      (is_used w.first_uses (ids_of channel accepts (take i txs)) (used_id channel accepts (Some (item.Update u)))) (may_update (channel_in channel w) (length txs == 1) u) refl refl refl refl refl e

  pub some_reason : HasReason
  some_reason = by_item (item_at txs i) refl (candidate-at (channel_in channel w) accepts (length txs == 1) w.first_uses [] txs i)
