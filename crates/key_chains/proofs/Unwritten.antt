-- A key that the block doesn't write has no operations.
use Rattle.std.proofs.Common.{◌≡◌, ◌⊎◌, inl, inr, ℕ, zero, suc, ◌<◌, ◌≤◌, leb, Bool, true, false, List, [], ◌++◌, length, Option, refl, sym, ap, ◌∙◌, arith}
use Rattle.std.specs.Prelude.{flat_map, option_map, option_to_list}
use Rattle.std.proofs.Math.ListN.{get_or-eq_default}
use Rattle.std.proofs.lemmas.Bool.Decides.{leb_tells}
use Rattle.rules.specs.declared.early_flag.EarlyFlag.TheVariants.{BadPayload}
use Rattle.rules.specs.State.{StateKey, is_among}
use Rattle.rules.specs.Candidate.{Candidate, flagged}
use Rattle.rules.specs.Job.{operated_by}
use Rattle.candidates.proofs.KeysInOrder.{keys_stay}
use Rattle.key_chains.specs.declared.operation.Kind.{Kind}
use Rattle.key_chains.specs.Operations.{candidate_in, operations}
use Rattle.key_chains.specs.Job.{written_by}
use Rattle.key_chains.specs.Building.{block_keys}
use Rattle.key_chains.proofs.BlockKeys.{written_among}
use Rattle.key_chains.proofs.Finishing.{unwritten}

module _ (cs : List Candidate) (k : StateKey) (none : is_among k (block_keys cs) ≡ false) where
  not_by : (n : ℕ) → is_among k (operated_by (candidate_in cs n)) ≡ false
  not_by n = by (leb_tells (suc n) (length cs))
    where
      no_block : is_among k (flat_map written_by cs) ≡ false
      no_block = sym (keys_stay k (flat_map written_by cs)) ∙ none

      here : (b : Bool) → is_among k (written_by (candidate_in cs n)) ≡ b → n < length cs → b ≡ false
      here true e lt = let h = written_among cs n k lt e in sym h ∙ no_block
      here false e lt = refl

      by : ((leb (suc n) (length cs) ≡ true) × (suc n ≤ length cs)) ⊎ ((leb (suc n) (length cs) ≡ false) × (length cs < suc n)) → is_among k (operated_by (candidate_in cs n)) ≡ false
      by (inl h) = sym (keys_stay k (operated_by (candidate_in cs n))) ∙ here (is_among k (written_by (candidate_in cs n))) refl h.1
      by (inr h) = let past : length cs ≤ n = omega (arith, h.1) in ap (λ (c : Candidate). is_among k (operated_by c)) (get_or-eq_default cs (flagged BadPayload) past)

  pub nobody_writes : (i : ℕ) → operations cs k i ≡ []
  unfolding operations
  nobody_writes zero = refl
  nobody_writes (suc n) =
      ap (λ (o : Option Kind). option_to_list (option_map (λ kind. record { tx = n; kind = kind }) o) ++ operations cs k n) (unwritten cs k n (candidate_in cs n) (not_by n)) ∙ nobody_writes n
