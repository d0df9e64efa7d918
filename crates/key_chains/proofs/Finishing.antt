-- From one candidate to the next.
use Rattle.std.proofs.Common.{◌≡◌, ℕ, zero, suc, ◌+◌, Bool, true, false, cond, ◌||◌, List, [], ◌∷◌, ◌++◌, length, map, take, All, Option, Some, None, Vec, Global, refl, sym, ap, subst, ◌∙◌, length-append}
use Rattle.std.specs.Prelude.{flat_map, option_map, option_to_list}
use Rattle.std.proofs.lemmas.List.{append-nil, length-map}
use Rattle.std.proofs.lemmas.List.Folds.{list_any-append}
use Rattle.std.proofs.lemmas.List.Concat.{flat_map-cons}
use Rattle.transaction.specs.declared.transaction.NsSet.{NsSet}
use Rattle.rules.specs.State.{StateKey, is_same_key, is_among}
use Rattle.rules.specs.Candidate.{Candidate, flagged, opened, updates}
use Rattle.rules.specs.Job.{touched_by, operated_by}
use Rattle.rules.specs.Effect.{value_keys_in, policy_keys_in}
use Rattle.rules.proofs.Booleans.{neither}
use Rattle.rules.proofs.Effects.{write_of-unwritten, policy_write_of-unwritten}
use Rattle.candidates.proofs.KeysInOrder.{keys_stay}
use Rattle.key_chains.specs.declared.operation.Operation.{Operation}
use Rattle.key_chains.specs.declared.operation.Kind.{Kind}
use Rattle.key_chains.specs.declared.chains.Chains.{Chains}
use Rattle.key_chains.specs.declared.chains.Written.{Written}
use Rattle.key_chains.specs.Linked.{KeyedLists, chain_in, IsLink}
use Rattle.key_chains.specs.Numbers.{number_in}
use Rattle.key_chains.specs.Operations.{candidate_in, kind_by, kind_from, operations}
use Rattle.key_chains.specs.PolicyWriters.{policy_writers}
use Rattle.key_chains.specs.Building.{list_at, so_far, Lead, gathered, starts, keys_read, lists_read, lists_touched, keys_written}
use Rattle.key_chains.specs.Built.{IsBuilt}

-- ---- what one candidate more gives

module _ {X : Type 0} (give : ℕ → List X) where
  pub gathered-more : (n : ℕ) → gathered give (suc n) ≡ gathered give n ++ give n
  unfolding gathered
  gathered-more n = refl

  pub starts-more : (n : ℕ) → starts give (suc n) ≡ starts give n ++ length (gathered give n) ∷ []
  unfolding starts
  starts-more n = refl

pub take_all : {A : Type 0} (xs : List A) → take (length xs) xs ≡ xs
take_all [] = refl
take_all (x ∷ xs) = ap (λ l. x ∷ l) (take_all xs)

-- ---- a key that a candidate doesn't write keeps its lists

policies_unwritten : (k : StateKey) (ns : List NsSet) → is_among k (flat_map (λ n. value_keys_in n ++ policy_keys_in n) ns) ≡ false → is_among k (flat_map policy_keys_in ns) ≡ false
policies_unwritten k [] e = refl
policies_unwritten k (n ∷ ns) e =
    let all = sym (list_any-append (is_same_key k) (value_keys_in n ++ policy_keys_in n) (flat_map (λ m. value_keys_in m ++ policy_keys_in m) ns)) ∙ ap (is_among k) (sym (flat_map-cons (λ m. value_keys_in m ++ policy_keys_in m) n ns)) ∙ e in
    let parts = neither (is_among k (value_keys_in n ++ policy_keys_in n)) (is_among k (flat_map (λ m. value_keys_in m ++ policy_keys_in m) ns)) all in
    let own = neither (is_among k (value_keys_in n)) (is_among k (policy_keys_in n)) (sym (list_any-append (is_same_key k) (value_keys_in n) (policy_keys_in n)) ∙ parts.0) in
    ap (is_among k) (flat_map-cons policy_keys_in n ns) ∙ list_any-append (is_same_key k) (policy_keys_in n) (flat_map policy_keys_in ns) ∙ (λ i. own.1 i || policies_unwritten k ns parts.1 i)

untouched : (k : StateKey) (c : Candidate) → is_among k (operated_by c) ≡ false → is_among k (touched_by c) ≡ false
untouched k (flagged flag) e = refl
untouched k (updates u signers) e = refl
untouched k (opened tx signers) e = policies_unwritten k tx.namespaces e

module _ (cs : List Candidate) (k : StateKey) (i : ℕ) where
  pub unwritten : (c : Candidate) → is_among k (operated_by c) ≡ false → ◌≡◌ {A = Option Kind} (kind_by c k) None
  unwritten (flagged flag) e = refl
  unwritten (updates u signers) e = refl
  unwritten (opened tx signers) e = λ j. kind_from (write_of-unwritten tx k e j) (policy_write_of-unwritten tx k e j)

  operations-still : is_among k (operated_by (candidate_in cs i)) ≡ false → operations cs k (suc i) ≡ operations cs k i
  unfolding operations
  operations-still e = ap (λ (o : Option Kind). option_to_list (option_map (λ kind. record { tx = i; kind = kind }) o) ++ operations cs k i) (unwritten (candidate_in cs i) e)

  writers-still : is_among k (touched_by (candidate_in cs i)) ≡ false → policy_writers cs k (suc i) ≡ policy_writers cs k i
  unfolding policy_writers
  writers-still e = ap (λ (b : Bool). cond b (i ∷ policy_writers cs k i) (policy_writers cs k i)) e

  -- behind all its keys a candidate's lists are the next one's
  ends : {X : Type 0} (list : StateKey → ℕ → List X) → (is_among k (keys_written cs i) ≡ false → list k (suc i) ≡ list k i) → so_far list (keys_written cs i) i (length (keys_written cs i)) k ≡ list k (suc i)
  ends list still =
      ap (λ (ks : List StateKey). cond (is_among k ks) (list k (suc i)) (list k i)) (take_all (keys_written cs i)) ∙ by (is_among k (keys_written cs i)) refl
    where
      by : (b : Bool) → is_among k (keys_written cs i) ≡ b → cond b (list k (suc i)) (list k i) ≡ list k (suc i)
      by true e = refl
      by false e = sym (still e)

  pub operations-end : so_far (operations cs) (keys_written cs i) i (length (keys_written cs i)) k ≡ operations cs k (suc i)
  operations-end = ends (operations cs) (λ e. operations-still (sym (keys_stay k (operated_by (candidate_in cs i))) ∙ e))

  pub writers-end : so_far (policy_writers cs) (keys_written cs i) i (length (keys_written cs i)) k ≡ policy_writers cs k (suc i)
  writers-end = ends (policy_writers cs) (λ e. writers-still (untouched k (candidate_in cs i) (sym (keys_stay k (operated_by (candidate_in cs i))) ∙ e)))

pub finished : (cs : List Candidate) (i : ℕ) (c : Chains) → IsBuilt cs i (suc i) (length (keys_written cs i)) c → IsBuilt cs (suc i) (suc i) 0 c
finished cs i c b = record {
  keys = b.keys;
  operations_count = b.operations_count;
  operations = λ k. b.operations k ∙ operations-end cs k i;
  policies_count = b.policies_count;
  policies = λ k. b.policies k ∙ writers-end cs k i;
  read_keys = b.read_keys;
  reads = b.reads;
  first_reads = b.first_reads;
  writers = subst (λ (to : List (List ℕ)). Lead c.policy_writers.0 (map (λ w. w.policy_writers) c.written.items) to) all_lists b.writers;
  numbers = b.numbers ∙ ap (map (number_in c.keys)) all_keys;
  first_written = b.first_written;
}
  where
    all_of : {X : Type 0} (give : ℕ → List X) (n : ℕ) → n ≡ length (give i) → gathered give i ++ take n (give i) ≡ gathered give (suc i) ++ []
    all_of give n e =
        ap (λ (m : ℕ). gathered give i ++ take m (give i)) e ∙ ap (λ xs. gathered give i ++ xs) (take_all (give i)) ∙ sym (gathered-more give i) ∙ sym (append-nil (gathered give (suc i)))

    all_lists : gathered (lists_touched cs) i ++ take (length (keys_written cs i)) (lists_touched cs i) ≡ gathered (lists_touched cs) (suc i) ++ []
    all_lists = all_of (lists_touched cs) (length (keys_written cs i)) (sym (length-map (keys_written cs i) (λ k. policy_writers cs k i)))

    all_keys : gathered (keys_written cs) i ++ take (length (keys_written cs i)) (keys_written cs i) ≡ gathered (keys_written cs) (suc i) ++ []
    all_keys = all_of (keys_written cs) (length (keys_written cs i)) refl

-- ---- the reads of a candidate

pub same_lengths : {X Y : Type 0} (f : ℕ → List X) (g : ℕ → List Y) → ((i : ℕ) → length (f i) ≡ length (g i)) → (n : ℕ) → length (gathered f n) ≡ length (gathered g n)
unfolding gathered
same_lengths f g h zero = refl
same_lengths f g h (suc n) = length-append (gathered f n) (f n) ∙ (λ i. same_lengths f g h n i + h n i) ∙ sym (length-append (gathered g n) (g n))

pub as_many_read : (cs : List Candidate) (n : ℕ) → length (gathered (lists_read cs) n) ≡ length (gathered (keys_read cs) n)
as_many_read cs = same_lengths (lists_read cs) (keys_read cs) (λ m. length-map (keys_read cs m) (λ k. operations cs k m))

-- with the starts, and the keys that it reads and their links
pub reads_linked : (cs : List Candidate) (i n m : ℕ) (old new : Chains) (read : List StateKey) → IsBuilt cs i i 0 old → read ≡ keys_read cs i → n ≡ length old.read_keys.items → m ≡ length old.written.items
    → new.first_reads.items ≡ old.first_reads.items ++ n ∷ [] → new.first_written.items ≡ old.first_written.items ++ m ∷ []
    → new.read_keys.items ≡ old.read_keys.items ++ read
    → map (chain_in old.operations.0) new.reads.items ≡ map (chain_in old.operations.0) old.reads.items ++ map (list_at old.keys old.operations) read
    → (All (IsLink old.operations.0) old.reads.items → All (IsLink old.operations.0) new.reads.items)
    → new.keys ≡ old.keys → new.operations ≡ old.operations → new.policy_writers ≡ old.policy_writers → new.written ≡ old.written → IsBuilt cs i (suc i) 0 new
reads_linked cs i n m old new read b is count counted first first_written keys lead links same_keys same_operations same_policies same_written = record {
  keys = same_keys ∙ b.keys;
  operations_count = (λ j. length (same_operations j).1) ∙ b.operations_count ∙ ap length (sym same_keys);
  operations = λ k. (λ j. list_at (same_keys j) (same_operations j) k) ∙ b.operations k;
  policies_count = (λ j. length (same_policies j).1) ∙ b.policies_count ∙ ap length (sym same_keys);
  policies = λ k. (λ j. list_at (same_keys j) (same_policies j) k) ∙ b.policies k;
  read_keys = keys ∙ (λ j. b.read_keys j ++ is j) ∙ sym (gathered-more (keys_read cs) i);
  reads = subst (λ (o : KeyedLists Operation). Lead o.0 new.reads.items (gathered (lists_read cs) (suc i))) (sym same_operations) linked;
  first_reads = first ∙ (λ j. b.first_reads j ++ (count ∙ ap length b.read_keys ∙ sym (as_many_read cs i)) j ∷ []) ∙ sym (starts-more (lists_read cs) i);
  writers = subst (λ (o : KeyedLists ℕ). Lead o.0 (map (λ w. w.policy_writers) new.written.items) (gathered (lists_touched cs) i ++ [])) (sym same_policies)
      (subst (λ (v : Vec Written Global). Lead old.policy_writers.0 (map (λ w. w.policy_writers) v.items) (gathered (lists_touched cs) i ++ [])) (sym same_written) b.writers);
  numbers = ap (λ (v : Vec Written Global). map (λ w. Some w.number) v.items) same_written ∙ b.numbers ∙ ap (λ (ks : List StateKey). map (number_in ks) (gathered (keys_written cs) i ++ [])) (sym same_keys);
  first_written = first_written ∙ (λ j. b.first_written j ++ (counted ∙ written_count) j ∷ []) ∙ sym (starts-more (keys_written cs) i);
}
  where
    lists : map (list_at old.keys old.operations) read ≡ lists_read cs i
    lists = (λ j. map (λ k. b.operations k j) read) ∙ ap (map (λ k. operations cs k i)) is

    linked : Lead old.operations.0 new.reads.items (gathered (lists_read cs) (suc i))
    linked = record { are_links = links b.reads.are_links; lead = lead ∙ (λ j. b.reads.lead j ++ lists j) ∙ sym (gathered-more (lists_read cs) i) }

    written_count : length old.written.items ≡ length (gathered (keys_written cs) i)
    written_count =
        sym (length-map old.written.items (λ w. Some w.number)) ∙ ap length b.numbers ∙ length-map (gathered (keys_written cs) i ++ []) (number_in old.keys) ∙ ap length (append-nil (gathered (keys_written cs) i))
