-- The policy that an endorsement fault names isn't satisfied.
use Rattle.std.proofs.Common.{◌≡◌, ◌≢◌, ◌==◌, length, ℕ, Bool, true, false, not, ◌&&◌, ◌||◌, [], List, take, Option, Some, is_some, is_none, ◌⊎◌, inl, inr, refl, sym, ap, ◌∙◌}
use Rattle.std.specs.List.{list_all}
use Rattle.std.specs.Str.{bytes_eq}
use Rattle.std.specs.FinMap.{get}
use Rattle.transaction.specs.declared.identity.Identity.{Identity}
use Rattle.transaction.specs.declared.transaction.Tx.{Tx}
use Rattle.transaction.specs.declared.update.Update.{Update}
use Rattle.transaction.specs.declared.item.Item.{Item}
use Rattle.transaction.specs.declared.item.Item.TheVariants as item
use Rattle.transaction.specs.Grammar.{identity_bytes, signed_bytes}
use Rattle.header_hash.specs.Hashes.{tx_id_of}
use Rattle.policy.specs.Tree.{Tree}
use Rattle.policy_eval.specs.Accepts.{Accepts}
use Rattle.policy_eval.specs.Evaluating.{is_satisfied}
use Rattle.policy_eval.specs.Signers.{signers_of}
use Rattle.channel.specs.Configuration.{Configuration}
use Rattle.rules.specs.declared.flag.Flag.TheVariants.{EndorsementPolicyFailure, InvalidConfigTransaction}
use Rattle.rules.specs.declared.early_flag.EarlyFlag.{EarlyFlag}
use Rattle.rules.specs.declared.early_flag.EarlyFlag.TheVariants.{BadPayload, BadCreatorSignature, BadProposalTxId, DuplicateTxId, InvalidConfigTransaction as EarlyInvalid, TargetChainNotFound, BadRwset, InvalidChaincode}
use Rattle.rules.specs.declared.read_verdict.ReadVerdict.{ReadVerdict}
use Rattle.rules.specs.declared.read_verdict.ReadVerdict.TheVariants.{Good, Stale, Phantom}
use Rattle.rules.specs.Flags.{flag_of}
use Rattle.rules.specs.State.{StateKey, policy_in, is_among}
use Rattle.rules.specs.Effect.{written_keys}
use Rattle.rules.specs.Endorsement.{meets, governing, may_write, has_writes, is_endorsed}
use Rattle.rules.specs.Candidate.{Candidate, flagged, opened, updates, may_update, candidate_of, used_id, is_used, is_all_defined}
use Rattle.rules.specs.ReadWriteSets.{is_in_form}
use Rattle.rules.specs.Job.{Job, candidate_at, flag_by, open_flag, reads, endorsement_by}
use Rattle.rules.specs.Fold.{running, endorsed, flag}
use Rattle.rules.specs.Commit.{channel_in, job_of}
use Rattle.rules.specs.World.{World}
use Rattle.rules.proofs.Booleans.{neither}
use Rattle.rules.proofs.Candidates.{ids_of}
use Rattle.reasons.specs.declared.endorsement_fault.EndorsementFault.TheVariants.{Unsatisfied, ChaincodeUnsatisfied}
use Rattle.reasons.specs.declared.policy_owner.PolicyOwner.{PolicyOwner}
use Rattle.reasons.specs.declared.shortfall.Shortfall.{Shortfall}
use Rattle.reasons.specs.declared.policy_owner.PolicyOwner.TheVariants.{OfKey, OfChaincode}
use Rattle.reasons.specs.Endorsement.{Governs, IsEndorsementFault}
use Rattle.reasons.specs.Reason.{item_at}
use Rattle.reasons.proofs.Below.{among_touched}
use Rattle.reasons.proofs.Lists.{not_true, none-find, found-passes}
use Rattle.transaction.specs.UpdateGrammar.{update_signed_bytes}
use Rattle.policy_eval.specs.UpdateSigners.{update_signers_of}
use Rattle.reasons.specs.declared.update_fault.UpdateFault.TheVariants.{AdminUnsatisfied}
use Rattle.reasons.specs.Update.{IsUpdateFault}
use Rattle.reasons.proofs.Updates.{none_if_may}
use Rattle.reasons.proofs.Places.{tested, tested_update, candidate-at}

-- ---- the policy that governs a key

governs_is : (j : Job) (k : StateKey) (owner : PolicyOwner) (policy : Tree) → Governs j k owner policy → governing j.definitions k.0 (policy_in j.state k) ≡ Some policy
governs_is j k OfKey policy e = ap (governing j.definitions k.0) e
governs_is j k OfChaincode policy e = ap (governing j.definitions k.0) e.0 ∙ e.1

pub key_policy_fails : (j : Job) (i : ℕ) (tx : Tx) (signers : List Identity) (namespace key : List ℕ) (owner : PolicyOwner) (lack : Shortfall)
    → IsEndorsementFault j i tx signers (Unsatisfied namespace key owner lack) → is_satisfied lack.policy lack.signers ≡ false
key_policy_fails j i tx signers namespace key owner lack x =
    let k : StateKey = (namespace, key) in
    let barred : may_write j.definitions j.state (running j i).touched signers k ≡ false =
    not_true (may_write j.definitions j.state (running j i).touched signers k) (found-passes (λ y. not (may_write j.definitions j.state (running j i).touched signers y)) (written_keys tx) k x.0) in
    let apart : is_among k (running j i).touched ≡ false = among_touched j k i ∙ ap is_some x.1 in
    ap (λ (y : Shortfall). is_satisfied lack.policy y.signers) x.3
    ∙ sym (ap (meets signers) (governs_is j k owner lack.policy x.2))
    ∙ sym (ap (λ (b : Bool). not b && meets signers (governing j.definitions k.0 (policy_in j.state k))) apart)
    ∙ barred

-- ---- the policy of the chaincode that is named

-- no early flag is that of the endorsement rule
early_is_another : (g : EarlyFlag) → flag_of g ≢ EndorsementPolicyFailure
early_is_another BadPayload e = absurd cc
early_is_another TargetChainNotFound e = absurd cc
early_is_another BadCreatorSignature e = absurd cc
early_is_another BadProposalTxId e = absurd cc
early_is_another DuplicateTxId e = absurd cc
early_is_another EarlyInvalid e = absurd cc
early_is_another BadRwset e = absurd cc
early_is_another InvalidChaincode e = absurd cc

open_or_early : (a b c u f d : Bool) (tx : Tx) (signers : List Identity)
    → (tested a b c u f d (opened tx signers) ≡ opened tx signers) ⊎ ((g : EarlyFlag) × (tested a b c u f d (opened tx signers) ≡ flagged g))
open_or_early false b c u f d tx signers = inr (TargetChainNotFound, refl)
open_or_early true false c u f d tx signers = inr (BadCreatorSignature, refl)
open_or_early true true false u f d tx signers = inr (BadProposalTxId, refl)
open_or_early true true true true f d tx signers = inr (DuplicateTxId, refl)
open_or_early true true true false false d tx signers = inr (BadRwset, refl)
open_or_early true true true false true false tx signers = inr (InvalidChaincode, refl)
open_or_early true true true false true true tx signers = inl refl

module _ (channel : Configuration) (accepts : Accepts) (w : World) (txs : List (Option Item)) (i : ℕ) (tx : Tx) (is : item_at txs i ≡ Some (item.Tx tx)) where
  abbrev j : Job
  j = job_of channel accepts w txs

  abbrev used : Option Item → Bool
  used o = is_used w.first_uses (ids_of channel accepts (take i txs)) (used_id channel accepts o)

  open_at : flag j i ≡ EndorsementPolicyFailure → candidate_at j i ≡ opened tx (signers_of accepts tx)
  open_at e = by
      (open_or_early (bytes_eq tx.channel channel.name) (accepts tx.creator (signed_bytes tx) tx.signature) (bytes_eq tx.id (tx_id_of tx.nonce (identity_bytes tx.creator)))
      (is_used w.first_uses (ids_of channel accepts (take i txs)) (used_id channel accepts (Some (item.Tx tx)))) (is_in_form tx) (is_all_defined w.definitions tx) tx (signers_of accepts tx))
    where
      here : candidate_at j i ≡ candidate_of (channel_in channel w) accepts (length txs == 1) (used (Some (item.Tx tx))) (Some (item.Tx tx))
      here = candidate-at (channel_in channel w) accepts (length txs == 1) w.first_uses [] txs i ∙ ap (λ (o : Option Item). candidate_of (channel_in channel w) accepts (length txs == 1) (used o) o) is

      by : (candidate_of (channel_in channel w) accepts (length txs == 1) (used (Some (item.Tx tx))) (Some (item.Tx tx)) ≡ opened tx (signers_of accepts tx)) ⊎ ((g : EarlyFlag) × (candidate_of (channel_in channel w) accepts (length txs == 1) (used (Some (item.Tx tx))) (Some (item.Tx tx)) ≡ flagged g))
          → candidate_at j i ≡ opened tx (signers_of accepts tx)
      by (inl o) = here ∙ o
      by (inr (g, o)) = absurd (early_is_another g (sym (ap (λ (c : Candidate). flag_by c (endorsed j i) (reads j i (running j i).state)) (here ∙ o)) ∙ e))

  not_endorsed : (b : Bool) (v : ReadVerdict) → open_flag EndorsementPolicyFailure b v ≡ EndorsementPolicyFailure → b ≡ false
  not_endorsed false v e = refl
  not_endorsed true Good e = absurd cc
  not_endorsed true Stale e = absurd cc
  not_endorsed true Phantom e = absurd cc

  pub chaincode_policy_fails : flag j i ≡ EndorsementPolicyFailure → (chaincode : List ℕ) (lack : Shortfall)
      → IsEndorsementFault j i tx (signers_of accepts tx) (ChaincodeUnsatisfied chaincode lack) → is_satisfied lack.policy lack.signers ≡ false
  chaincode_policy_fails e chaincode lack x =
      let signers : List Identity = signers_of accepts tx in
      let opened_here = open_at e in
      let refused : endorsed j i ≡ false = not_endorsed (endorsed j i) (reads j i (running j i).state)
      (sym (ap (λ (c : Candidate). flag_by c (endorsed j i) (reads j i (running j i).state)) opened_here) ∙ e) in
      let rule : is_endorsed j.definitions j.state (running j i).touched tx signers ≡ false = sym (ap (endorsement_by j.admin j.definitions j.state (running j i).touched) opened_here) ∙ refused in
      let all : list_all (may_write j.definitions j.state (running j i).touched signers) (written_keys tx) ≡ true =
      sym (none-find (may_write j.definitions j.state (running j i).touched signers) (written_keys tx)) ∙ ap is_none x.0 in
      let rest : (has_writes tx tx.chaincode || meets signers (get j.definitions tx.chaincode)) ≡ false =
      sym (ap (λ (b : Bool). b && (has_writes tx tx.chaincode || meets signers (get j.definitions tx.chaincode))) all) ∙ rule in
      ap (λ (y : Shortfall). is_satisfied lack.policy y.signers) x.3 ∙ sym (ap (meets signers) x.2) ∙ (neither (has_writes tx tx.chaincode) (meets signers (get j.definitions tx.chaincode)) rest).1

-- ---- the admin policy

early_update : (a b c v : Bool) (u : Update) (signers : List Identity)
    → (tested_update a b c v true (updates u signers) ≡ updates u signers) ⊎ ((g : EarlyFlag) × (tested_update a b c v true (updates u signers) ≡ flagged g) × (flag_of g ≢ InvalidConfigTransaction))
early_update false b c v u signers = inr (TargetChainNotFound, refl, λ e. absurd cc)
early_update true false c v u signers = inr (BadCreatorSignature, refl, λ e. absurd cc)
early_update true true false v u signers = inr (BadProposalTxId, refl, λ e. absurd cc)
early_update true true true true u signers = inr (DuplicateTxId, refl, λ e. absurd cc)
early_update true true true false u signers = inl refl

module _ (channel : Configuration) (accepts : Accepts) (w : World) (items : List (Option Item)) (i : ℕ) (u : Update) (is : item_at items i ≡ Some (item.Update u)) where
  abbrev own : Job
  own = job_of channel accepts w items

  abbrev has_used : Bool
  has_used = is_used w.first_uses (ids_of channel accepts (take i items)) (used_id channel accepts (Some (item.Update u)))

  pub update_at : may_update (channel_in channel w) (length items == 1) u ≡ true → flag own i ≡ InvalidConfigTransaction → candidate_at own i ≡ updates u (update_signers_of accepts u)
  update_at may e = by (early_update (bytes_eq u.channel channel.name) (accepts u.creator (update_signed_bytes u) u.signature) (bytes_eq u.id (tx_id_of u.nonce (identity_bytes u.creator))) has_used u (update_signers_of accepts u))
    where
      here : candidate_at own i ≡ tested_update (bytes_eq u.channel channel.name) (accepts u.creator (update_signed_bytes u) u.signature) (bytes_eq u.id (tx_id_of u.nonce (identity_bytes u.creator))) has_used true (updates u (update_signers_of accepts u))
      here =
          candidate-at (channel_in channel w) accepts (length items == 1) w.first_uses [] items i
          ∙ ap (λ (o : Option Item). candidate_of (channel_in channel w) accepts (length items == 1) (is_used w.first_uses (ids_of channel accepts (take i items)) (used_id channel accepts o)) o) is
          ∙ ap (λ (m : Bool). tested_update (bytes_eq u.channel channel.name) (accepts u.creator (update_signed_bytes u) u.signature) (bytes_eq u.id (tx_id_of u.nonce (identity_bytes u.creator))) has_used m (updates u (update_signers_of accepts u))) may

      by : (tested_update (bytes_eq u.channel channel.name) (accepts u.creator (update_signed_bytes u) u.signature) (bytes_eq u.id (tx_id_of u.nonce (identity_bytes u.creator))) has_used true (updates u (update_signers_of accepts u)) ≡ updates u (update_signers_of accepts u))
          ⊎ ((g : EarlyFlag) × (tested_update (bytes_eq u.channel channel.name) (accepts u.creator (update_signed_bytes u) u.signature) (bytes_eq u.id (tx_id_of u.nonce (identity_bytes u.creator))) has_used true (updates u (update_signers_of accepts u)) ≡ flagged g) × (flag_of g ≢ InvalidConfigTransaction))
          → candidate_at own i ≡ updates u (update_signers_of accepts u)
      by (inl o) = here ∙ o
      by (inr (g, o, apart)) = absurd (apart (sym (ap (λ (c : Candidate). flag_by c (endorsed own i) (reads own i (running own i).state)) (here ∙ o)) ∙ e))

  not_passed : (b : Bool) (v : ReadVerdict) → open_flag InvalidConfigTransaction b v ≡ InvalidConfigTransaction → b ≡ false
  not_passed false v e = refl
  not_passed true Good e = absurd cc
  not_passed true Stale e = absurd cc
  not_passed true Phantom e = absurd cc

  pub admin_policy_fails : flag own i ≡ InvalidConfigTransaction → (lack : Shortfall)
      → IsUpdateFault (channel_in channel w) accepts (length items == 1) u (AdminUnsatisfied lack) → is_satisfied lack.policy lack.signers ≡ false
  admin_policy_fails e lack x =
      let may : may_update (channel_in channel w) (length items == 1) u ≡ true = sym (none_if_may (channel_in channel w) (length items == 1) u) ∙ ap is_none x.0 in
      let open_here = update_at may e in
      let refused : endorsed own i ≡ false = not_passed (endorsed own i) (reads own i (running own i).state)
      (sym (ap (λ (c : Candidate). flag_by c (endorsed own i) (reads own i (running own i).state)) open_here) ∙ e) in
      ap (λ (y : Shortfall). is_satisfied lack.policy y.signers) x.2 ∙ sym (ap (meets (update_signers_of accepts u)) x.1) ∙ sym (ap (endorsement_by own.admin own.definitions own.state (running own i).touched) open_here) ∙ refused
