-- One candidate of a block.
use Rattle.std.proofs.Common.{◌≡◌, ℕ, suc, List, [], ◌∷◌, ◌-◌, ◌++◌, length, map, take, All, Option, Vec, Global, refl, sym, ap, subst, ◌∙◌}
use Rattle.std.specs.Prelude.{drop}
use Rattle.std.proofs.lemmas.List.{append-nil, length-map, length-drop}
use Rattle.rules.specs.State.{StateKey}
use Rattle.rules.specs.Candidate.{Candidate, opened}
use Rattle.rules.specs.Job.{operated_by}
use Rattle.candidates.specs.Written.{keys_in_order}
use Rattle.candidates.specs.declared.open_tx.OpenTx.{OpenTx}
use Rattle.key_chains.specs.declared.chains.Chains.{Chains}
use Rattle.key_chains.specs.Linked.{chain_in, IsLink}
use Rattle.key_chains.specs.Operations.{candidate_in}
use Rattle.key_chains.specs.Job.{read_by, read_keys, written_by}
use Rattle.key_chains.specs.Building.{list_at, keys_written}
use Rattle.key_chains.specs.Built.{IsBuilt}
use Rattle.key_chains.proofs.Flagged.{no_keys}
use Rattle.key_chains.proofs.OpenWrites.{keys_are}
use Rattle.key_chains.proofs.Finishing.{finished, reads_linked, take_all}

-- one that reads and writes nothing
pub nothing_passes : (cs : List Candidate) (i n m : ℕ) (c : Candidate) (old new : Chains) → candidate_in cs i ≡ c → read_by c ≡ [] → operated_by c ≡ [] → IsBuilt cs i i 0 old → n ≡ length old.read_keys.items → m ≡ length old.written.items
    → new.first_reads.items ≡ old.first_reads.items ++ n ∷ [] → new.first_written.items ≡ old.first_written.items ++ m ∷ []
    → new.keys ≡ old.keys → new.operations ≡ old.operations → new.policy_writers ≡ old.policy_writers → new.written ≡ old.written → new.read_keys ≡ old.read_keys → new.reads ≡ old.reads → IsBuilt cs (suc i) (suc i) 0 new
nothing_passes cs i n m c old new is no_reads no_writes b count counted first first_written keys ops pols written read reads =
    finished cs i new (subst (λ (p : ℕ). IsBuilt cs i (suc i) p new) (sym nothing) (reads_linked cs i n m old new [] b (sym (ap read_by is ∙ no_reads)) count counted first first_written
    (ap (λ (v : Vec StateKey Global). v.items) read ∙ sym (append-nil old.read_keys.items))
    (ap (λ (v : Vec (Option ℕ) Global). map (chain_in old.operations.0) v.items) reads ∙ sym (append-nil (map (chain_in old.operations.0) old.reads.items)))
    (λ links. subst (λ (v : Vec (Option ℕ) Global). All (IsLink old.operations.0) v.items) (sym reads) links) keys ops pols written))
  where
    nothing : length (keys_written cs i) ≡ 0
    nothing = ap (λ (x : Candidate). length (written_by x)) is ∙ ap (λ (ks : List StateKey). length (keys_in_order ks)) no_writes ∙ ap length no_keys

-- those that were added behind all before
added : (old new added : List StateKey) → new ≡ old ++ added → drop (length old) new ≡ added
added old new more e = ap (drop (length old)) e ∙ behind old more
  where
    behind : (xs ys : List StateKey) → drop (length xs) (xs ++ ys) ≡ ys
    behind [] ys = refl
    behind (x ∷ xs) ys = behind xs ys

-- an open one, once its reads are linked
pub reads_pass : (cs : List Candidate) (i n m : ℕ) (o : OpenTx) (old new : Chains) (all : List StateKey) → candidate_in cs i ≡ opened o.tx o.signers → IsBuilt cs i i 0 old → n ≡ length old.read_keys.items → m ≡ length old.written.items
    → new.first_reads.items ≡ old.first_reads.items ++ n ∷ [] → new.first_written.items ≡ old.first_written.items ++ m ∷ []
    → new.read_keys.items ≡ old.read_keys.items ++ read_keys o.tx
    → all ≡ new.read_keys.items
    → map (chain_in old.operations.0) new.reads.items ≡ map (chain_in old.operations.0) old.reads.items ++ map (list_at old.keys old.operations) (take (length all - n) (drop n all))
    → (All (IsLink old.operations.0) old.reads.items → All (IsLink old.operations.0) new.reads.items)
    → new.keys ≡ old.keys → new.operations ≡ old.operations → new.policy_writers ≡ old.policy_writers → new.written ≡ old.written → IsBuilt cs i (suc i) 0 new
reads_pass cs i n m o old new all is b count counted first first_written keys same lead links same_keys ops pols written =
    reads_linked cs i n m old new (read_keys o.tx) b (ap read_by (sym is)) count counted first first_written keys
    (lead ∙ ap (λ (ks : List StateKey). map (chain_in old.operations.0) old.reads.items ++ map (list_at old.keys old.operations) ks)
    (ap (λ (k : ℕ). take k (drop n all)) (sym (length-drop n all)) ∙ take_all (drop n all) ∙ (λ j. drop (count j) (same j)) ∙ added old.read_keys.items new.read_keys.items (read_keys o.tx) keys))
    links same_keys ops pols written

-- and once its keys are
pub writes_pass : (cs : List Candidate) (i : ℕ) (o : OpenTx) (new : Chains) (n : ℕ) → candidate_in cs i ≡ opened o.tx o.signers → n ≡ length o.written.items → IsBuilt cs i (suc i) n new → IsBuilt cs (suc i) (suc i) 0 new
writes_pass cs i o new n is count b =
    finished cs i new (subst (λ (p : ℕ). IsBuilt cs i (suc i) p new) (count ∙ sym (length-map o.written.items (λ w. w.key)) ∙ ap length (sym (keys_are cs i o is))) b)
