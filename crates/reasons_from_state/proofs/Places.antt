-- What a candidate tells of the item at its place, and of its flag.
use Rattle.std.proofs.Common.{◌≡◌, ℕ, Bool, true, false, ◌==◌, List, [], length, take, Option, Some, None, refl, sym, ap, ◌∙◌}
use Rattle.transaction.specs.declared.identity.Identity.{Identity}
use Rattle.transaction.specs.declared.transaction.Tx.{Tx}
use Rattle.transaction.specs.declared.update.Update.{Update}
use Rattle.transaction.specs.declared.item.Item.{Item}
use Rattle.transaction.specs.declared.item.Item.TheVariants as item
use Rattle.policy_eval.specs.Accepts.{Accepts}
use Rattle.policy_eval.specs.Signers.{signers_of}
use Rattle.policy_eval.specs.UpdateSigners.{update_signers_of}
use Rattle.channel.specs.Configuration.{Configuration}
use Rattle.rules.specs.declared.flag.Flag.{Flag}
use Rattle.rules.specs.declared.flag.Flag.TheVariants.{EndorsementPolicyFailure}
use Rattle.rules.specs.declared.read_verdict.ReadVerdict.{ReadVerdict}
use Rattle.rules.specs.declared.read_verdict.ReadVerdict.TheVariants.{Good, Stale, Phantom}
use Rattle.rules.specs.Flags.{is_valid}
use Rattle.rules.specs.World.{World}
use Rattle.rules.specs.Job.{Job, candidate_at, reads, flag_by, open_flag}
use Rattle.rules.specs.Fold.{running, endorsed, flag}
use Rattle.rules.specs.Commit.{channel_in, job_of}
use Rattle.rules.specs.Candidate.{Candidate, opened, updates, may_update, used_id, is_used, candidate_of}
use Rattle.rules.proofs.Candidates.{ids_of}
use Rattle.rules.proofs.OpenCandidates.{open_only_if}
use Rattle.rules.proofs.OpenUpdates.{update_only_if}
use Rattle.reasons.specs.Reason.{item_at}
use Rattle.reasons.proofs.Places.{candidate-at}
use Rattle.reasons_from_state.specs.Told.{is_told_by_state}

module _ (channel : Configuration) (accepts : Accepts) (alone used : Bool) where
  opened_of : (o : Option Item) (tx : Tx) (ss : List Identity) → candidate_of channel accepts alone used o ≡ opened tx ss → (o ≡ Some (item.Tx tx)) × (ss ≡ signers_of accepts tx)
  opened_of None tx ss e = absurd cc
  opened_of (Some x) tx ss e =
      let it = open_only_if channel accepts alone used x tx ss e in
      (ap (λ (y : Item). Some y) it.same, it.signers)

  update_of : (o : Option Item) (u : Update) (ss : List Identity) → candidate_of channel accepts alone used o ≡ updates u ss
      → (o ≡ Some (item.Update u)) × (ss ≡ update_signers_of accepts u) × (may_update channel alone u ≡ true)
  update_of None u ss e = absurd cc
  update_of (Some x) u ss e =
      let it = update_only_if channel accepts alone used x u ss e in
      (ap (λ (y : Item). Some y) it.same, it.signers, it.may)

module _ (channel : Configuration) (accepts : Accepts) (w : World) (items : List (Option Item)) (i : ℕ) where
  abbrev has_used : Bool
  has_used = is_used w.first_uses (ids_of channel accepts (take i items)) (used_id channel accepts (item_at items i))

  placed : candidate_at (job_of channel accepts w items) i ≡ candidate_of (channel_in channel w) accepts (length items == 1) has_used (item_at items i)
  placed = candidate-at (channel_in channel w) accepts (length items == 1) w.first_uses [] items i

  pub opened_at : (tx : Tx) (ss : List Identity) → candidate_at (job_of channel accepts w items) i ≡ opened tx ss → (item_at items i ≡ Some (item.Tx tx)) × (ss ≡ signers_of accepts tx)
  opened_at tx ss e = opened_of (channel_in channel w) accepts (length items == 1) has_used (item_at items i) tx ss (sym placed ∙ e)

  pub update_at : (u : Update) (ss : List Identity) → candidate_at (job_of channel accepts w items) i ≡ updates u ss
      → (item_at items i ≡ Some (item.Update u)) × (ss ≡ update_signers_of accepts u) × (may_update (channel_in channel w) (length items == 1) u ≡ true)
  update_at u ss e = update_of (channel_in channel w) accepts (length items == 1) has_used (item_at items i) u ss (sym placed ∙ e)

-- an open transaction that isn't valid has a flag that the state tells
open_is_told : (e : Bool) (v : ReadVerdict) → is_valid (open_flag EndorsementPolicyFailure e v) ≡ false → is_told_by_state (open_flag EndorsementPolicyFailure e v) ≡ true
open_is_told false v fails = refl
open_is_told true Good fails = absurd cc
open_is_told true Stale fails = refl
open_is_told true Phantom fails = refl

pub invalid_is_told : (j : Job) (i : ℕ) (f : Flag) (tx : Tx) (ss : List Identity) → candidate_at j i ≡ opened tx ss → f ≡ flag j i → is_valid f ≡ false → is_told_by_state f ≡ true
invalid_is_told j i f tx ss opens is fails =
    let own : f ≡ open_flag EndorsementPolicyFailure (endorsed j i) (reads j i (running j i).state) = is ∙ ap (λ (c : Candidate). flag_by c (endorsed j i) (reads j i (running j i).state)) opens in
    ap is_told_by_state own ∙ open_is_told (endorsed j i) (reads j i (running j i).state) (ap is_valid (sym own) ∙ fails)
