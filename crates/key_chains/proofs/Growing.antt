-- The chains of a block, one key further.
use Rattle.std.proofs.Common.{◌≡◌, ◌≢◌, ℕ, suc, cond, List, [], ◌∷◌, ◌++◌, length, map, take, Option, Some, None, Vec, Global, sym, ap, subst, ◌∙◌}
use Rattle.std.specs.Prelude.{slice_index_or, is_some}
use Rattle.std.specs.List.Sorted.{IsStrictlySortedBy}
use Rattle.std.proofs.lemmas.List.{append_assoc, map-append}
use Rattle.rules.specs.State.{StateKey, key_cmp}
use Rattle.rules.specs.Candidate.{Candidate}
use Rattle.candidates.specs.declared.written_key.WrittenKey.{WrittenKey}
use Rattle.candidates.proofs.KeysInOrder.{keys_rise}
use Rattle.rules.specs.Job.{operated_by}
use Rattle.key_chains.specs.declared.operation.Operation.{Operation}
use Rattle.key_chains.specs.declared.chains.Chains.{Chains}
use Rattle.key_chains.specs.declared.chains.Written.{Written}
use Rattle.key_chains.specs.Linked.{KeyedLists, chain_in, list_of, IsLink, LinksStay}
use Rattle.key_chains.specs.Numbers.{number_in}
use Rattle.key_chains.specs.Operations.{candidate_in, kind_of, operations}
use Rattle.key_chains.specs.PolicyWriters.{policy_writers}
use Rattle.key_chains.specs.Building.{list_numbered, list_at, Lead, gathered, lists_read, lists_touched, keys_written}
use Rattle.key_chains.specs.Built.{IsBuilt, IsNext}
use Rattle.key_chains.proofs.Adding.{other_list, so_far_here, so_far_more, lead_more, lead_stays, operations_more, writers_more, take_one, map_one}

-- what a push makes of one key's list
pub record IsListNow {X : Type 0} (n : ℕ) (xs : List X) (old new : KeyedLists X) : Type 0 where
  pub here : list_of new n ≡ xs
  pub others : (k : ℕ) → k ≢ n → list_of new k ≡ list_of old k
  pub links : LinksStay old new
  pub count : length new.1 ≡ length old.1

written_rise : (cs : List Candidate) (i : ℕ) → IsStrictlySortedBy key_cmp (keys_written cs i)
written_rise cs i = keys_rise (operated_by (candidate_in cs i))

module _ (cs : List Candidate) (i p : ℕ) (w : WrittenKey) (old new : Chains) (number : ℕ) (link : Option ℕ) (next : IsNext cs i p w) (built : IsBuilt cs i (suc i) p old) (numbered : number_in old.keys w.key ≡ Some number) where
  old_operations : list_of old.operations number ≡ operations cs w.key i
  old_operations = ap (list_numbered old.operations) (sym numbered) ∙ built.operations w.key ∙ so_far_here (operations cs) (keys_written cs i) i p w.key (written_rise cs i) next.place

  old_writers : list_of old.policy_writers number ≡ policy_writers cs w.key i
  old_writers = ap (list_numbered old.policy_writers) (sym numbered) ∙ built.policies w.key ∙ so_far_here (policy_writers cs) (keys_written cs i) i p w.key (written_rise cs i) next.place

  abbrev operation : Operation
  operation = record { tx = i; kind = kind_of w.value }

  new_operations : (operation ∷ list_of old.operations number) ≡ operations cs w.key (suc i)
  new_operations = ap (λ (l : List Operation). operation ∷ l) old_operations ∙ operations_more cs w.key i (kind_of w.value) next.kind

  new_writers : cond (is_some w.policy) (i ∷ list_of old.policy_writers number) (list_of old.policy_writers number) ≡ policy_writers cs w.key (suc i)
  new_writers = ap (λ (l : List ℕ). cond (is_some w.policy) (i ∷ l) l) old_writers ∙ writers_more cs w.key i (is_some w.policy) next.touches

  link_leads : link ≡ slice_index_or old.policy_writers.1 number None → chain_in old.policy_writers.0 link ≡ policy_writers cs w.key i
  link_leads e = ap (chain_in old.policy_writers.0) e ∙ old_writers

  lists_further : gathered (lists_touched cs) i ++ take (suc p) (lists_touched cs i) ≡ (gathered (lists_touched cs) i ++ take p (lists_touched cs i)) ++ policy_writers cs w.key i ∷ []
  lists_further =
      ap (λ (l : List (List ℕ)). gathered (lists_touched cs) i ++ l) (map_one (λ k. policy_writers cs k i) (keys_written cs i) p w.key next.place)
      ∙ sym (append_assoc (gathered (lists_touched cs) i) (take p (lists_touched cs i)) (policy_writers cs w.key i ∷ []))

  writers_further : IsLink old.policy_writers.0 link → link ≡ slice_index_or old.policy_writers.1 number None → new.written.items ≡ old.written.items ++ (record { number = number; policy_writers = link }) ∷ []
      → Lead old.policy_writers.0 (map (λ x. x.policy_writers) new.written.items) (gathered (lists_touched cs) i ++ take (suc p) (lists_touched cs i))
  writers_further is_link is_newest written =
      subst (λ (to : List (List ℕ)). Lead old.policy_writers.0 (map (λ x. x.policy_writers) new.written.items) to) (sym lists_further)
      (subst (λ (ls : List (Option ℕ)). Lead old.policy_writers.0 ls ((gathered (lists_touched cs) i ++ take p (lists_touched cs i)) ++ policy_writers cs w.key i ∷ [])) (sym (
      ap (map (λ x. x.policy_writers)) written ∙ map-append (λ (x : Written). x.policy_writers) old.written.items _))
      (lead_more old.policy_writers.0 _ _ link (policy_writers cs w.key i) built.writers is_link (link_leads is_newest)))

  pub one_further : IsListNow number (operation ∷ list_of old.operations number) old.operations new.operations
      → IsListNow number (cond (is_some w.policy) (i ∷ list_of old.policy_writers number) (list_of old.policy_writers number)) old.policy_writers new.policy_writers
      → link ≡ slice_index_or old.policy_writers.1 number None → IsLink old.policy_writers.0 link
      → new.written.items ≡ old.written.items ++ (record { number = number; policy_writers = link }) ∷ []
      → new.keys ≡ old.keys → new.read_keys ≡ old.read_keys → new.reads ≡ old.reads → new.first_reads ≡ old.first_reads → new.first_written ≡ old.first_written
      → IsBuilt cs i (suc i) (suc p) new
  one_further ops pols is_newest is_link written same_keys same_read same_reads same_first same_first_written = record {
    keys = same_keys ∙ built.keys;
    operations_count = ops.count ∙ built.operations_count ∙ ap length (sym same_keys);
    operations = λ k. ap (λ (ks : List StateKey). list_at ks new.operations k) same_keys ∙ so_far_more (operations cs) (keys_written cs i) i p w.key _ (list_at old.keys old.operations) (list_at old.keys new.operations) next.place new_operations built.operations (other_list old.keys old.operations new.operations number _ w.key ops.here ops.others numbered) k;
    policies_count = pols.count ∙ built.policies_count ∙ ap length (sym same_keys);
    policies = λ k. ap (λ (ks : List StateKey). list_at ks new.policy_writers k) same_keys ∙ so_far_more (policy_writers cs) (keys_written cs i) i p w.key _ (list_at old.keys old.policy_writers) (list_at old.keys new.policy_writers) next.place new_writers built.policies (other_list old.keys old.policy_writers new.policy_writers number _ w.key pols.here pols.others numbered) k;
    read_keys = ap (λ (v : Vec StateKey Global). v.items) same_read ∙ built.read_keys;
    reads = subst (λ (v : Vec (Option ℕ) Global). Lead new.operations.0 v.items (gathered (lists_read cs) (suc i))) (sym same_reads) (lead_stays old.operations new.operations _ _ ops.links built.reads);
    first_reads = ap (λ (v : Vec ℕ Global). v.items) same_first ∙ built.first_reads;
    writers = lead_stays old.policy_writers new.policy_writers _ _ pols.links (writers_further is_link is_newest written);
    numbers = ap (map (λ x. Some x.number)) written ∙ map-append (λ (x : Written). Some x.number) old.written.items _ ∙ (λ j. built.numbers j ++ sym numbered j ∷ []) ∙ sym (
        (λ j. map (number_in (same_keys j)) (gathered (keys_written cs) i ++ take_one (keys_written cs i) p w.key next.place j))
        ∙ ap (map (number_in old.keys)) (sym (append_assoc (gathered (keys_written cs) i) (take p (keys_written cs i)) (w.key ∷ [])))
        ∙ map-append (number_in old.keys) (gathered (keys_written cs) i ++ take p (keys_written cs i)) (w.key ∷ []));
    first_written = ap (λ (v : Vec ℕ Global). v.items) same_first_written ∙ built.first_written;
  }
