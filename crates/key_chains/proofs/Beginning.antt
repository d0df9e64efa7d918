-- The chains of a block before its first candidate.
use Rattle.std.proofs.Common.{◌≡◌, ℕ, zero, suc, List, [], ◌++◌, length, get_or, map, Option, Some, None, refl, sym, ap, subst, ◌∙◌, arith}
use Rattle.std.specs.Prelude.{replicate}
use Rattle.std.proofs.lemmas.List.{length-replicate}
use Rattle.rules.specs.State.{StateKey}
use Rattle.rules.specs.Candidate.{Candidate}
use Rattle.key_chains.specs.declared.operation.Operation.{Operation}
use Rattle.key_chains.specs.declared.chains.Chains.{Chains}
use Rattle.key_chains.specs.Linked.{KeyedLists, chain_in}
use Rattle.key_chains.specs.Numbers.{number_in}
use Rattle.key_chains.specs.Operations.{operations}
use Rattle.key_chains.specs.PolicyWriters.{policy_writers}
use Rattle.key_chains.specs.Building.{block_keys, list_numbered, Lead, gathered, starts, keys_read, lists_read, lists_touched, keys_written}
use Rattle.key_chains.specs.Built.{IsBuilt}

no_link : (n m : ℕ) → get_or (replicate {A = Option ℕ} n None) m None ≡ None
no_link zero m = refl
no_link (suc n) zero = refl
no_link (suc n) (suc m) = no_link n m

module _ {X : Type 0} where
  pub nothing_numbered : (lists : KeyedLists X) (n : ℕ) (o : Option ℕ) → lists.1 ≡ replicate n None → list_numbered lists o ≡ []
  nothing_numbered lists n None e = refl
  nothing_numbered lists n (Some m) e = ap (chain_in lists.0) (ap (λ (l : List (Option ℕ)). get_or l m None) e ∙ no_link n m)

  pub gathered-none : (give : ℕ → List X) → gathered give 0 ≡ []
  unfolding gathered
  gathered-none give = refl

  pub starts-none : (give : ℕ → List X) → starts give 0 ≡ []
  unfolding starts
  starts-none give = refl

  pub no_leads : (lists : List (List X)) (links : List (Option ℕ)) (to : List (List X)) → links ≡ [] → to ≡ [] → Lead lists links to
  no_leads lists links to none nothing =
      subst (λ (ls : List (Option ℕ)). Lead lists ls to) (sym none)
      (subst (λ (t : List (List X)). Lead lists [] t) (sym nothing) (record { are_links = λ n d lt. absurd (omega arith); lead = refl }))

no_operations : (cs : List Candidate) (k : StateKey) → operations cs k 0 ≡ []
unfolding operations
no_operations cs k = refl

no_writers : (cs : List Candidate) (k : StateKey) → policy_writers cs k 0 ≡ []
unfolding policy_writers
no_writers cs k = refl

pub begins : (cs : List Candidate) (c : Chains) (n : ℕ) → c.keys ≡ block_keys cs → n ≡ length c.keys → c.operations ≡ ([], replicate n None) → c.policy_writers ≡ ([], replicate n None)
    → c.read_keys.items ≡ [] → c.reads.items ≡ [] → c.first_reads.items ≡ [] → c.written.items ≡ [] → c.first_written.items ≡ [] → IsBuilt cs 0 0 0 c
begins cs c n keys count ops pols read reads first written first_written = record {
  keys = keys;
  operations_count = ap (λ (l : KeyedLists Operation). length l.1) ops ∙ length-replicate n None ∙ count;
  operations = λ k. nothing_numbered c.operations n (number_in c.keys k) (ap (λ (l : KeyedLists Operation). l.1) ops) ∙ sym (no_operations cs k);
  policies_count = ap (λ (l : KeyedLists ℕ). length l.1) pols ∙ length-replicate n None ∙ count;
  policies = λ k. nothing_numbered c.policy_writers n (number_in c.keys k) (ap (λ (l : KeyedLists ℕ). l.1) pols) ∙ sym (no_writers cs k);
  read_keys = read ∙ sym (gathered-none (keys_read cs));
  reads = no_leads _ _ _ reads (gathered-none (lists_read cs));
  first_reads = first ∙ sym (starts-none (lists_read cs));
  writers = no_leads _ _ _ (ap (map (λ w. w.policy_writers)) written) (ap (λ (l : List (List ℕ)). l ++ []) (gathered-none (lists_touched cs)));
  numbers = ap (map (λ w. Some w.number)) written ∙ sym (ap (λ (l : List StateKey). map (number_in c.keys) (l ++ [])) (gathered-none (keys_written cs)));
  first_written = first_written ∙ sym (starts-none (keys_written cs));
}
