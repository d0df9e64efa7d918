-- The keys of a block are those of its candidates.
use Rattle.std.proofs.Common.{◌≡◌, ℕ, zero, suc, ◌<◌, Bool, true, ◌||◌, List, [], ◌∷◌, length, get_or, map, sym, ap, ◌∙◌, arith}
use Rattle.std.specs.Prelude.{flat_map, IsSome}
use Rattle.std.proofs.lemmas.List.Folds.{list_any-append}
use Rattle.std.proofs.lemmas.List.Concat.{flat_map-cons}
use Rattle.candidates.specs.declared.candidate.Candidate.{Candidate}
use Rattle.candidates.specs.Seen.{seen}
use Rattle.candidates.proofs.KeysInOrder.{keys_stay}
use Rattle.rules.specs.State.{StateKey, is_same_key, is_among}
use Rattle.rules.specs.Candidate as rule
use Rattle.rules.proofs.Booleans.{or-true}
use Rattle.key_chains.specs.Numbers.{number_in}
use Rattle.key_chains.specs.Operations.{candidate_in}
use Rattle.key_chains.specs.Job.{written_by}
use Rattle.key_chains.specs.Building.{block_keys}
use Rattle.key_chains.proofs.OpenWrites.{has_number}

pub candidate_is : (cs : List Candidate) (i : ℕ) (c : Candidate) → i < length cs → c ≡ get_or cs i c → candidate_in (map seen cs) i ≡ seen c
candidate_is [] i c lt is = absurd (omega arith)
candidate_is (x ∷ cs) zero c lt is = ap seen (sym is)
candidate_is (x ∷ cs) (suc i) c lt is = candidate_is cs i c (omega arith) is

pub written_among : (cs : List rule.Candidate) (i : ℕ) (k : StateKey) → i < length cs → is_among k (written_by (candidate_in cs i)) ≡ true → is_among k (flat_map written_by cs) ≡ true
written_among [] i k lt e = absurd (omega arith)
written_among (c ∷ cs) zero k lt e =
    ap (is_among k) (flat_map-cons written_by c cs) ∙ list_any-append (is_same_key k) (written_by c) (flat_map written_by cs) ∙ ap (λ (b : Bool). b || is_among k (flat_map written_by cs)) e
written_among (c ∷ cs) (suc i) k lt e =
    ap (is_among k) (flat_map-cons written_by c cs) ∙ list_any-append (is_same_key k) (written_by c) (flat_map written_by cs)
    ∙ ap (λ (b : Bool). is_among k (written_by c) || b) (written_among cs i k (omega arith) e) ∙ or-true (is_among k (written_by c))

pub numbers_all : (cs : List rule.Candidate) (i : ℕ) (keys : List StateKey) → keys ≡ block_keys cs → i < length cs → (k : StateKey) → is_among k (written_by (candidate_in cs i)) ≡ true → IsSome (number_in keys k)
numbers_all cs i keys is lt k e = has_number keys k (ap (is_among k) is ∙ keys_stay k (flat_map written_by cs) ∙ written_among cs i k lt e)
