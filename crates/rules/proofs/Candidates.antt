-- The candidates and the used ids of a block's transactions, list by list.
use Rattle.std.proofs.Common.{◌≡◌, ℕ, Bool, suc, ◌+◌, List, [], ◌∷◌, ◌++◌, length, map, Option, Some, None, refl, sym, ap, ◌∙◌, append_assoc, append-nil, arith}
use Rattle.std.specs.Prelude.{option_to_list}
use Rattle.transaction.specs.declared.item.Item.{Item}
use Rattle.policy_eval.specs.Accepts.{Accepts}
use Rattle.channel.specs.Configuration.{Configuration}
use Rattle.rules.specs.declared.first_use.FirstUse.{FirstUse}
use Rattle.rules.specs.Candidate.{Candidate, used_id, is_used, candidate_of, candidates_from}
use Rattle.rules.specs.FirstUses.{FirstUses}
use Rattle.rules.specs.Job.{Job}
use Rattle.rules.specs.Fold.{flag}
use Rattle.rules.specs.Commit.{uses_from}

module _ (channel : Configuration) (accepts : Accepts) where
  -- the ids that these use
  abbrev pub ids_of : List (Option Item) → List (List ℕ)
  ids_of [] = []
  ids_of (tx ∷ txs) = option_to_list (used_id channel accepts tx) ++ ids_of txs

  -- one candidate for each transaction
  pub length-candidates_from : (alone : Bool) (uses : FirstUses) (earlier : List (List ℕ)) (txs : List (Option Item)) → length (candidates_from channel accepts alone uses earlier txs) ≡ length txs
  length-candidates_from alone uses earlier [] = refl
  length-candidates_from alone uses earlier (tx ∷ txs) = ap suc (length-candidates_from alone uses (earlier ++ option_to_list (used_id channel accepts tx)) txs)

  pub candidates_from-append : (alone : Bool) (uses : FirstUses) (earlier : List (List ℕ)) (txs others : List (Option Item))
      → candidates_from channel accepts alone uses earlier (txs ++ others) ≡ candidates_from channel accepts alone uses earlier txs ++ candidates_from channel accepts alone uses (earlier ++ ids_of txs) others
  candidates_from-append alone uses earlier [] others = ap (λ (ids : List (List ℕ)). candidates_from channel accepts alone uses ids others) (sym (append-nil earlier))
  candidates_from-append alone uses earlier (tx ∷ txs) others =
      let id = option_to_list (used_id channel accepts tx) in
      let rest = candidates_from-append alone uses (earlier ++ id) txs others
      ∙ ap (λ (ids : List (List ℕ)). candidates_from channel accepts alone uses (earlier ++ id) txs ++ candidates_from channel accepts alone uses ids others) (append_assoc earlier id (ids_of txs)) in
      ap (λ (cs : List Candidate). candidate_of channel accepts alone (is_used uses earlier (used_id channel accepts tx)) tx ∷ cs) rest

  -- one transaction more at the end
  pub candidates_from-push : (alone : Bool) (uses : FirstUses) (earlier : List (List ℕ)) (txs : List (Option Item)) (tx : Option Item)
      → candidates_from channel accepts alone uses earlier (txs ++ tx ∷ []) ≡ candidates_from channel accepts alone uses earlier txs ++ candidate_of channel accepts alone (is_used uses (earlier ++ ids_of txs) (used_id channel accepts tx)) tx ∷ []
  candidates_from-push alone uses earlier txs tx = candidates_from-append alone uses earlier txs (tx ∷ [])

pub uses_from-append : (j : Job) (i : ℕ) (ids others : List (Option (List ℕ))) → uses_from j i (ids ++ others) ≡ uses_from j i ids ++ uses_from j (i + length ids) others
uses_from-append j i [] others = let same : i ≡ i + 0 = omega arith in ap (λ (n : ℕ). uses_from j n others) same
uses_from-append j i (id ∷ ids) others =
    let own : List (List ℕ × FirstUse) = map (λ x. (x, record { block = j.number; place = i; flag = flag j i })) (option_to_list id) in
    let place : suc i + length ids ≡ i + length (id ∷ ids) = omega arith in
    ap (λ (us : List (List ℕ × FirstUse)). own ++ us) (uses_from-append j (suc i) ids others ∙ ap (λ (n : ℕ). uses_from j (suc i) ids ++ uses_from j n others) place)
    ∙ sym (append_assoc own (uses_from j (suc i) ids) (uses_from j (i + length (id ∷ ids)) others))

-- the ids of the uses, in order
pub uses_from-ids : (channel : Configuration) (accepts : Accepts) (j : Job) (i : ℕ) (txs : List (Option Item)) → map (λ u. u.0) (uses_from j i (map (used_id channel accepts) txs)) ≡ ids_of channel accepts txs
uses_from-ids channel accepts j i [] = refl
uses_from-ids channel accepts j i (tx ∷ txs) = by (used_id channel accepts tx) (uses_from-ids channel accepts j (suc i) txs)
  where
    by : (o : Option (List ℕ)) → map (λ u. u.0) (uses_from j (suc i) (map (used_id channel accepts) txs)) ≡ ids_of channel accepts txs
        → map (λ u. u.0) (uses_from j i (o ∷ map (used_id channel accepts) txs)) ≡ option_to_list o ++ ids_of channel accepts txs
    by None rest = rest
    by (Some id) rest = ap (λ (ids : List (List ℕ)). id ∷ ids) rest
