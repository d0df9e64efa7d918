-- What a job's look-ups find in its chains.
use Rattle.std.proofs.Common.{◌≡◌, ℕ, ◌+◌, ◌<◌, ◌≤◌, List, [], Option, Some, None, length, map, get_or, refl, sym, ap, subst, ◌∙◌, arith}
use Rattle.std.specs.Prelude.{slice_get, flat_map}
use Rattle.std.proofs.lemmas.List.{length-map}
use Rattle.candidates.specs.declared.candidate.Candidate.{Candidate}
use Rattle.candidates.specs.Seen.{seen}
use Rattle.rules.specs.State.{StateKey}
use Rattle.rules.specs.Candidate as rule
use Rattle.rules.specs.Job.{Job, candidate_at}
use Rattle.key_chains.specs.declared.chains.Chains.{Chains}
use Rattle.key_chains.specs.declared.chains.Written.{Written}
use Rattle.key_chains.specs.Linked.{chain_in, IsLink}
use Rattle.candidates.specs.Written.{keys_in_order}
use Rattle.key_chains.specs.Operations.{candidate_in, operations}
use Rattle.key_chains.specs.PolicyWriters.{policy_writers}
use Rattle.key_chains.specs.Job.{read_by, written_by, keys_of}
use Rattle.key_chains.specs.Building.{gathered, lists_read, keys_written}
use Rattle.key_chains.specs.Built.{IsBuilt}
use Rattle.key_chains.proofs.Flagged.{no_keys}
use Rattle.key_chains.proofs.LookUps.{is_there, reads_fit, first_read, first_key, first_reads_there, first_written_there, read_there, read_link, read_leads, key_there, writers_link, writers_lead, number_leads, placed, at_key}

-- the job is of these candidates and chains
pub record IsJobOf (j : Job) (items : List Candidate) (chains : Chains) : Type 0 where
  pub candidates : j.candidates ≡ map seen items
  pub built : IsBuilt (map seen items) (length items) (length items) 0 chains

-- an item that a look-up reads
abbrev pub IsItem : {X : Type 0} → X → List X → List ℕ → ℕ → ℕ → Type 0
IsItem x items firsts i r = (d : _) → x ≡ get_or items (get_or firsts i 0 + r) d

module _ (j : Job) (items : List Candidate) (chains : Chains) (of : IsJobOf j items chains) (firsts : List ℕ) (i r : ℕ) where
  abbrev cs : List rule.Candidate
  cs = map seen items

  module _ (reads : List (Option ℕ)) (same_firsts : firsts ≡ chains.first_reads.items) (same_reads : reads ≡ chains.reads.items) (below : r < length (read_by (candidate_at j i))) where
    abbrev own : r < length (read_by (candidate_in cs i))
    own = subst (λ (l : List rule.Candidate). r < length (read_by (candidate_in l i))) of.candidates below

    there : i < length items
    there = let h = is_there cs i r read_by refl own in omega (arith, h, length-map items seen)

    pub first_is : get_or firsts i 0 ≡ length (gathered (lists_read cs) i)
    first_is = ap (λ (l : List ℕ). get_or l i 0) same_firsts ∙ first_read cs (length items) i r chains of.built there 0

    pub read_candidate : i < length firsts
    read_candidate = let h = first_reads_there cs (length items) i r chains of.built there in omega (arith, h, ap length same_firsts)

    pub read_item : get_or firsts i 0 + r < length reads
    read_item = let h = read_there cs (length items) i r chains of.built there own in omega (arith, h, first_is, ap length same_reads)

    at : (l : Option ℕ) → IsItem l reads firsts i r → (d : Option ℕ) → l ≡ get_or chains.reads.items (length (gathered (lists_read cs) i) + r) d
    at l is d = is d ∙ (λ m. get_or (same_reads m) (first_is m + r) d)

    pub read_is_link : (l : Option ℕ) → IsItem l reads firsts i r → IsLink chains.operations.0 l
    read_is_link l is = subst (λ (x : Option ℕ). IsLink chains.operations.0 x) (sym (at l is None)) (read_link cs (length items) i r chains of.built there own None)

    pub read_is_list : (l : Option ℕ) → IsItem l reads firsts i r → (k : StateKey) → slice_get (read_by (candidate_at j i)) r ≡ Some k → chain_in chains.operations.0 l ≡ operations j.candidates k i
    read_is_list l is k here =
        ap (chain_in chains.operations.0) (at l is None) ∙ read_leads cs (length items) i r chains of.built there own None
        ∙ at_key (λ x. operations cs x i) (read_by (candidate_in cs i)) r [] k (ap (λ (l : List rule.Candidate). slice_get (read_by (candidate_in l i)) r) (sym of.candidates) ∙ here)
        ∙ ap (λ (l : List rule.Candidate). operations l k i) (sym of.candidates)

  module _ (written : List Written) (same_firsts : firsts ≡ chains.first_written.items) (same_written : written ≡ chains.written.items) (below : r < length (written_by (candidate_at j i))) where
    abbrev own_key : r < length (written_by (candidate_in cs i))
    own_key = subst (λ (l : List rule.Candidate). r < length (written_by (candidate_in l i))) of.candidates below

    there_too : i < length items
    there_too = let h = is_there cs i r written_by (ap length no_keys) own_key in omega (arith, h, length-map items seen)

    first_key_is : get_or firsts i 0 ≡ length (gathered (keys_written cs) i)
    first_key_is = ap (λ (l : List ℕ). get_or l i 0) same_firsts ∙ first_key cs (length items) i r chains of.built there_too 0

    pub key_candidate : i < length firsts
    key_candidate = let h = first_written_there cs (length items) i r chains of.built there_too in omega (arith, h, ap length same_firsts)

    pub key_item : get_or firsts i 0 + r < length written
    key_item = let h = key_there cs (length items) i r chains of.built there_too own_key in omega (arith, h, first_key_is, ap length same_written)

    at_written : (w : Written) → IsItem w written firsts i r → w ≡ get_or chains.written.items (length (gathered (keys_written cs) i) + r) w
    at_written w is = is w ∙ (λ m. get_or (same_written m) (first_key_is m + r) w)

    pub key_is_link : (w : Written) → IsItem w written firsts i r → IsLink chains.policy_writers.0 w.policy_writers
    key_is_link w is = subst (λ (x : Written). IsLink chains.policy_writers.0 x.policy_writers) (sym (at_written w is)) (writers_link cs (length items) i r chains of.built there_too own_key w)

    pub key_is_list : (w : Written) → IsItem w written firsts i r → (k : StateKey) → slice_get (written_by (candidate_at j i)) r ≡ Some k → chain_in chains.policy_writers.0 w.policy_writers ≡ policy_writers j.candidates k i
    key_is_list w is k here =
        ap (λ (x : Written). chain_in chains.policy_writers.0 x.policy_writers) (at_written w is) ∙ writers_lead cs (length items) i r chains of.built there_too own_key w
        ∙ at_key (λ x. policy_writers cs x i) (written_by (candidate_in cs i)) r [] k (ap (λ (l : List rule.Candidate). slice_get (written_by (candidate_in l i)) r) (sym of.candidates) ∙ here)
        ∙ ap (λ (l : List rule.Candidate). policy_writers l k i) (sym of.candidates)

    pub keys_are : chains.keys ≡ keys_of j
    keys_are = of.built.keys ∙ ap (λ (l : List rule.Candidate). keys_in_order (flat_map written_by l)) (sym of.candidates)

    pub key_is_placed : (w : Written) → IsItem w written firsts i r → (k : StateKey) → slice_get (written_by (candidate_at j i)) r ≡ Some k → slice_get (keys_of j) w.number ≡ Some k
    key_is_placed w is k here =
        ap (λ (ks : List StateKey). slice_get ks w.number) (sym keys_are)
        ∙ placed chains.keys k w.number (
        sym (number_leads cs (length items) i r chains of.built there_too own_key w k (ap (λ (l : List rule.Candidate). slice_get (written_by (candidate_in l i)) r) (sym of.candidates) ∙ here))
        ∙ ap (λ (x : Written). Some x.number) (sym (at_written w is)))

-- the reads of a candidate are among all that the chains have
pub reads_are_few : (j : Job) (items : List Candidate) (chains : Chains) → IsJobOf j items chains → (i n : ℕ) → i < length j.candidates → length chains.reads.items ≤ n → length (read_by (candidate_at j i)) ≤ n
reads_are_few j items chains of i n lt few =
    let same = ap length of.candidates in
    let here : i < length items = omega (arith, lt, same, length-map items seen) in
    let fit = reads_fit (map seen items) (length items) i 0 chains of.built here in
    let own = ap (λ (l : List rule.Candidate). length (read_by (candidate_in l i))) of.candidates in
    omega (arith, few, fit, own)
