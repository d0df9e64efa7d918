-- Of the definitions, what an item is before the rules on the state are asked needs the names alone.
use Rattle.std.proofs.Common.{◌≡◌, ℕ, Bool, not, List, [], ◌∷◌, ◌++◌, Option, Some, None, refl, ap, ◌∙◌}
use Rattle.std.specs.Prelude.{◌&&◌, is_some, option_to_list}
use Rattle.std.specs.List.{list_all}
use Rattle.transaction.specs.declared.transaction.Tx.{Tx}
use Rattle.transaction.specs.declared.update.Update.{Update}
use Rattle.transaction.specs.declared.item.Item.{Item}
use Rattle.transaction.specs.declared.item.Item.TheVariants as item
use Rattle.policy.specs.Policies.{Policies}
use Rattle.policy_eval.specs.Accepts.{Accepts}
use Rattle.policy.specs.Meaning.{policy_of}
use Rattle.channel.specs.Configuration.{Configuration}
use Rattle.rules.specs.declared.early_flag.EarlyFlag.TheVariants.{DuplicateTxId, InvalidConfigTransaction, BadRwset, InvalidChaincode}
use Rattle.rules.specs.State.{StateKey}
use Rattle.rules.specs.Effect.{written_keys}
use Rattle.rules.specs.ReadWriteSets.{is_in_form}
use Rattle.rules.specs.FirstUses.{FirstUses}
use Rattle.rules.specs.Candidate.{is_defined, is_all_defined, may_update, first_failed, origin_fault, content_fault, flagged_or, open_of, candidate_of, used_id, is_used, candidates_from}
use Rattle.rules.specs.World.{World}
use Rattle.rules.specs.Names.{HasNamesOf}
use Rattle.rules.specs.Commit.{channel_in}

-- ---- two maps with the same names

module _ (m n : Policies) (same : (name : List ℕ) → is_defined m name ≡ is_defined n name) where
  all_same : (ks : List StateKey) → list_all (λ k. is_defined m k.0) ks ≡ list_all (λ k. is_defined n k.0) ks
  all_same [] = refl
  all_same (k ∷ ks) = λ i. same k.0 i && all_same ks i

  all_defined_same : (tx : Tx) → is_all_defined m tx ≡ is_all_defined n tx
  all_defined_same tx = λ i. same tx.chaincode i && all_same (written_keys tx) i

-- ---- candidates

module _ (channel : Configuration) (w : World) (names : HasNamesOf channel w) (accepts : Accepts) where
  may_update_same : (alone : Bool) (u : Update) → may_update (channel_in channel w) alone u ≡ may_update channel alone u
  may_update_same alone u = let named = names u.namespace in λ i. alone && is_some channel.admin && named i && is_some (policy_of u.policy)

  content_same : (alone used : Bool) (x : Item) → content_fault (channel_in channel w) alone used x ≡ content_fault channel alone used x
  content_same alone used (item.Tx tx) =
      let defined = all_defined_same w.definitions channel.definitions names tx in
      λ i. first_failed ((not used, DuplicateTxId) ∷ (is_in_form tx, BadRwset) ∷ (defined i, InvalidChaincode) ∷ [])
  content_same alone used (item.Update u) =
      let may = may_update_same alone u in
      λ i. first_failed ((not used, DuplicateTxId) ∷ (may i, InvalidConfigTransaction) ∷ [])

  pub candidate_same : (alone used : Bool) (x : Option Item) → candidate_of (channel_in channel w) accepts alone used x ≡ candidate_of channel accepts alone used x
  candidate_same alone used None = refl
  candidate_same alone used (Some x) = λ i. flagged_or (origin_fault channel accepts x) (flagged_or (content_same alone used x i) (open_of accepts x))

  id_same : (x : Option Item) → used_id (channel_in channel w) accepts x ≡ used_id channel accepts x
  id_same None = refl
  id_same (Some x) = refl

  pub candidates_same : (alone : Bool) (uses : FirstUses) (earlier : List (List ℕ)) (items : List (Option Item))
      → candidates_from (channel_in channel w) accepts alone uses earlier items ≡ candidates_from channel accepts alone uses earlier items
  candidates_same alone uses earlier [] = refl
  candidates_same alone uses earlier (x ∷ items) =
      let own = used_id channel accepts x in
      let first = candidate_same alone (is_used uses earlier own) x in
      let rest = candidates_same alone uses (earlier ++ option_to_list own) items in
      ap (λ (id : Option (List ℕ)). candidate_of (channel_in channel w) accepts alone (is_used uses earlier id) x ∷ candidates_from (channel_in channel w) accepts alone uses (earlier ++ option_to_list id) items) (id_same x)
      ∙ (λ i. first i ∷ rest i)
