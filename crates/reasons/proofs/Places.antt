-- The candidate of a place of a block.
use Rattle.std.proofs.Common.{◌≡◌, ℕ, zero, suc, Bool, not, List, [], ◌∷◌, ◌++◌, take, get_or, Option, refl, sym, ap, ◌∙◌, append_assoc, append-nil}
use Rattle.std.specs.Prelude.{option_to_list}
use Rattle.transaction.specs.declared.item.Item.{Item}
use Rattle.policy_eval.specs.Accepts.{Accepts}
use Rattle.channel.specs.Configuration.{Configuration}
use Rattle.rules.specs.declared.early_flag.EarlyFlag.TheVariants.{BadPayload, BadCreatorSignature, BadProposalTxId, DuplicateTxId, InvalidConfigTransaction, TargetChainNotFound, BadRwset, InvalidChaincode}
use Rattle.rules.specs.FirstUses.{FirstUses}
use Rattle.rules.specs.Candidate.{Candidate, flagged, first_failed, flagged_or, used_id, is_used, candidate_of, candidates_from}
use Rattle.rules.proofs.Candidates.{ids_of}
use Rattle.reasons.specs.Reason.{item_at}

-- the candidate of a transaction by what the tests before the state say
abbrev pub tested : (channel signed id used in_form defined : Bool) → Candidate → Candidate
tested channel signed id used in_form defined c =
    flagged_or (first_failed ((channel, TargetChainNotFound) ∷ (signed, BadCreatorSignature) ∷ (id, BadProposalTxId) ∷ []))
    (flagged_or (first_failed ((not used, DuplicateTxId) ∷ (in_form, BadRwset) ∷ (defined, InvalidChaincode) ∷ [])) c)

-- and that of an update
abbrev pub tested_update : (channel signed id used may : Bool) → Candidate → Candidate
tested_update channel signed id used may c =
    flagged_or (first_failed ((channel, TargetChainNotFound) ∷ (signed, BadCreatorSignature) ∷ (id, BadProposalTxId) ∷ []))
    (flagged_or (first_failed ((not used, DuplicateTxId) ∷ (may, InvalidConfigTransaction) ∷ [])) c)

module _ (channel : Configuration) (accepts : Accepts) (alone : Bool) (uses : FirstUses) where
  pub candidate-at : (earlier : List (List ℕ)) (txs : List (Option Item)) (i : ℕ) → get_or (candidates_from channel accepts alone uses earlier txs) i (flagged BadPayload)
      ≡ candidate_of channel accepts alone (is_used uses (earlier ++ ids_of channel accepts (take i txs)) (used_id channel accepts (item_at txs i))) (item_at txs i)
  candidate-at earlier [] i = refl
  candidate-at earlier (tx ∷ txs) zero = ap (λ (ids : List (List ℕ)). candidate_of channel accepts alone (is_used uses ids (used_id channel accepts tx)) tx) (sym (append-nil earlier))
  candidate-at earlier (tx ∷ txs) (suc i) =
      let own : List (List ℕ) = option_to_list (used_id channel accepts tx) in
      candidate-at (earlier ++ own) txs i
      ∙ ap (λ (ids : List (List ℕ)). candidate_of channel accepts alone (is_used uses ids (used_id channel accepts (item_at txs i))) (item_at txs i)) (append_assoc earlier own (ids_of channel accepts (take i txs)))
