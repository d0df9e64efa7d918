-- What one place more makes of the candidates and ids of a block.
use Rattle.std.proofs.Common.{◌≡◌, ℕ, ◌+◌, ◌<◌, Bool, List, [], ◌∷◌, ◌++◌, length, take, drop, get_or, map, Option, sym, ap, ◌∙◌, drop-cons, add-one, append_assoc}
use Rattle.std.specs.Prelude.{option_to_list}
use Rattle.std.proofs.lemmas.List.{take_more, map_push}
use Rattle.transaction.specs.declared.block_version.BlockVersion.{BlockVersion}
use Rattle.transaction.specs.declared.item.Item.{Item}
use Rattle.transaction.specs.Items.{item_of}
use Rattle.policy_eval.specs.Accepts.{Accepts}
use Rattle.channel.specs.Configuration.{Configuration}
use Rattle.rules.specs.Candidate as candidate
use Rattle.rules.specs.Candidate.{used_id, is_used, candidate_of, candidates_from}
use Rattle.rules.specs.FirstUses.{FirstUses}
use Rattle.plain.specs.declared.candidate.Candidate.{Candidate}
use Rattle.plain.specs.Seen.{seen}

module _ (channel : Configuration) (accepts : Accepts) (version : BlockVersion) (txs : List (List ℕ)) (i : ℕ) (bytes d : List ℕ) (lt : i < length txs) (is : bytes ≡ get_or txs i d) where
  abbrev item : Option Item
  item = item_of version bytes

  left : drop i txs ≡ bytes ∷ drop (i + 1) txs
  left = drop-cons txs i d lt ∙ ap (λ (k : ℕ). get_or txs i d ∷ drop k txs) (sym (add-one i)) ∙ ap (λ (b : List ℕ). b ∷ drop (i + 1) txs) (sym is)

  taken : take (i + 1) txs ≡ take i txs ++ bytes ∷ []
  taken = take_more txs i d lt ∙ ap (λ (b : List ℕ). take i txs ++ b ∷ []) (sym is)

  pub one_id : (ids new : List (Option (List ℕ))) (id : Option (List ℕ)) → ids ≡ map (used_id channel accepts) (map (item_of version) (take i txs)) → id ≡ used_id channel accepts item → new ≡ ids ++ id ∷ []
      → new ≡ map (used_id channel accepts) (map (item_of version) (take (i + 1) txs))
  one_id ids new id before own pushed =
      pushed ∙ (λ k. before k ++ own k ∷ [])
      ∙ sym (
      ap (λ (l : List (List ℕ)). map (used_id channel accepts) (map (item_of version) l)) taken
      ∙ ap (map (used_id channel accepts)) (map_push (item_of version) (take i txs) bytes)
      ∙ map_push (used_id channel accepts) (map (item_of version) (take i txs)) item)

  module _ (alone : Bool) (uses : FirstUses) where
    abbrev rest : List (List ℕ) → List candidate.Candidate
    rest earlier = candidates_from channel accepts alone uses earlier (map (item_of version) (drop (i + 1) txs))

    pub one_candidate : (cs new : List Candidate) (c : Candidate) (earlier later : List (List ℕ)) (id : Option (List ℕ)) → id ≡ used_id channel accepts item → seen c ≡ candidate_of channel accepts alone (is_used uses earlier id) item
        → new ≡ cs ++ c ∷ [] → later ≡ earlier ++ option_to_list id
        → map seen cs ++ candidates_from channel accepts alone uses earlier (map (item_of version) (drop i txs)) ≡ map seen new ++ rest later
    one_candidate cs new c earlier later id own made pushed used =
        ap (λ (l : List (List ℕ)). map seen cs ++ candidates_from channel accepts alone uses earlier (map (item_of version) l)) left
        ∙ ap (λ (x : Option (List ℕ)). map seen cs ++ candidate_of channel accepts alone (is_used uses earlier x) item ∷ rest (earlier ++ option_to_list x)) (sym own)
        ∙ (λ k. map seen cs ++ sym made k ∷ rest (sym used k))
        ∙ sym (append_assoc (map seen cs) (seen c ∷ []) (rest later))
        ∙ ap (λ (l : List candidate.Candidate). l ++ rest later) (sym (map_push seen cs c))
        ∙ ap (λ (l : List Candidate). map seen l ++ rest later) (sym pushed)
