-- The rows of what a block's candidates read, by the places of their reads.
use Rattle.std.proofs.Common.{◌≡◌, ℕ, zero, suc, ◌+◌, ◌<◌, ◌≤◌, List, [], ◌∷◌, Option, Some, length, take, map, get_or, refl, sym, ap, subst, ◌∙◌, arith, Bor}
use Rattle.std.specs.Prelude.{slice_get, flat_map}
use Rattle.std.specs.Option.{option_copied}
use Rattle.std.specs.FinMap.{get}
use Rattle.std.proofs.Math.ListN.{get_or-map}
use Rattle.std.proofs.lemmas.List.{length-map}
use Rattle.state_db.specs.LookedUp.{AreRows}
use Rattle.candidates.specs.declared.candidate.Candidate.{Candidate}
use Rattle.candidates.specs.Seen.{seen}
use Rattle.rules.specs.declared.early_flag.EarlyFlag.TheVariants.{BadPayload}
use Rattle.rules.specs.declared.row.Row.{Row}
use Rattle.rules.specs.State.{State, StateKey}
use Rattle.rules.specs.Candidate as rule
use Rattle.rules.specs.Candidate.{flagged}
use Rattle.rules.specs.Job.{Job, candidate_at}
use Rattle.key_chains.specs.declared.chains.Chains.{Chains}
use Rattle.key_chains.specs.Operations.{candidate_in}
use Rattle.key_chains.specs.Job.{read_by, reads_in}
use Rattle.key_chains.specs.Building.{gathered, keys_read, lists_read}
use Rattle.key_chains.specs.Built.{IsBuilt}
use Rattle.key_chains.proofs.Finishing.{gathered-more, take_all, as_many_read}
use Rattle.key_chains.proofs.Gathering.{one_more}
use Rattle.key_chains.proofs.JobLists.{IsJobOf, IsItem, first_is}
use Rattle.key_chains.proofs.LookUps.{is_there, gathered_at, below_end, mapped, here_is}

any_default : {A : Type 0} (xs : List A) (n : ℕ) (d e : A) → n < length xs → get_or xs n d ≡ get_or xs n e
any_default [] n d e lt = absurd (omega arith)
any_default (x ∷ xs) zero d e lt = refl
any_default (x ∷ xs) (suc n) d e lt = any_default xs n d e (omega arith)

gathered_so_far : (cs : List rule.Candidate) (n : ℕ) → n ≤ length cs → gathered (keys_read cs) n ≡ flat_map read_by (take n cs)
unfolding gathered
gathered_so_far cs zero few = refl
gathered_so_far cs (suc n) few =
    one_more read_by [] (gathered (keys_read cs) n) (gathered (keys_read cs) (suc n)) cs n (candidate_in cs n) few (any_default cs n (flagged BadPayload) (candidate_in cs n) few) (gathered_so_far cs n (omega (arith, few))) (gathered-more (keys_read cs) n)
    ∙ ap (λ (m : ℕ). flat_map read_by (take m cs)) more
  where
    more : n + 1 ≡ suc n
    more = omega arith

module _ (cs : List rule.Candidate) where
  all_reads : gathered (keys_read cs) (length cs) ≡ reads_in cs
  all_reads = gathered_so_far cs (length cs) (omega arith) ∙ ap (flat_map read_by) (take_all cs)

  module _ (i r : ℕ) (there : i < length cs) (below : r < length (keys_read cs i)) where
    read_below : length (gathered (lists_read cs) i) + r < length (reads_in cs)
    read_below = let h = below_end (keys_read cs) (length cs) i r there below in omega (arith, h, as_many_read cs i, ap length all_reads)

    read_at : (d : StateKey) → get_or (reads_in cs) (length (gathered (lists_read cs) i) + r) d ≡ get_or (keys_read cs i) r d
    read_at d =
        (λ m. get_or (sym all_reads m) (as_many_read cs i m + r) d) ∙ gathered_at (keys_read cs) (length cs) i r d there below

module _ (j : Job) (items : List Candidate) (chains : Chains) (of : IsJobOf j items chains) (firsts : List ℕ) (i r : ℕ) (same_firsts : firsts ≡ chains.first_reads.items) (below : r < length (read_by (candidate_at j i)))
    (s : State) (rows : List (Option (Bor Row))) (are : AreRows s (reads_in (map seen items)) rows) where
  abbrev cs : List rule.Candidate
  cs = map seen items

  own : r < length (keys_read cs i)
  own = subst (λ (l : List rule.Candidate). r < length (read_by (candidate_in l i))) of.candidates below

  there : i < length cs
  there = is_there cs i r read_by refl own

  place_is : get_or firsts i 0 ≡ length (gathered (lists_read cs) i)
  place_is = first_is j items chains of firsts i r chains.reads.items same_firsts refl below

  as_many_rows : length rows ≡ length (reads_in cs)
  as_many_rows = sym (length-map rows option_copied) ∙ ap length are ∙ length-map (reads_in cs) (get s)

  pub row_item : get_or firsts i 0 + r < length rows
  row_item = omega (arith, read_below cs i r there own, place_is, as_many_rows)

  pub row_is : (x : Option (Bor Row)) → IsItem x rows firsts i r → (k : StateKey) → slice_get (read_by (candidate_at j i)) r ≡ Some k → option_copied x ≡ get s k
  row_is x is k here =
      let place : ℕ = length (gathered (lists_read cs) i) + r in
      let key : get_or (reads_in cs) place k ≡ k = read_at cs i r there own k ∙ here_is (keys_read cs i) r k (ap (λ (l : List rule.Candidate). slice_get (read_by (candidate_in l i)) r) (sym of.candidates) ∙ here) in
      ap (λ (row : Option (Bor Row)). option_copied row) (is x ∙ ap (λ (n : ℕ). get_or rows (n + r) x) place_is)
      ∙ sym (get_or-map option_copied rows place x)
      ∙ ap (λ (l : List (Option Row)). get_or l place (option_copied x)) are
      ∙ mapped (get s) (reads_in cs) place k (option_copied x) (read_below cs i r there own)
      ∙ ap (get s) key

-- the keys of all reads, as the chains have them
pub read_keys_are : (items : List Candidate) (c : Chains) → IsBuilt (map seen items) (length items) (length items) 0 c → c.read_keys.items ≡ reads_in (map seen items)
read_keys_are items c b = b.read_keys ∙ ap (gathered (keys_read (map seen items))) (sym (length-map items seen)) ∙ all_reads (map seen items)
