-- What the chains of a block have on the way, behind the candidates before one. No public contract cites this.
use Rattle.std.specs.Prelude.{◌≡◌, ℕ, ◌<◌, List, length, map, take, Some, slice_get, slice_index_or, ◌++◌}
use Rattle.rules.specs.State.{StateKey, is_among}
use Rattle.rules.specs.Candidate.{Candidate}
use Rattle.rules.specs.Job.{touched_by}
use Rattle.std.specs.Prelude.{is_some}
use Rattle.candidates.specs.declared.written_key.WrittenKey.{WrittenKey}
use Rattle.key_chains.specs.declared.chains.Chains.{Chains}
use Rattle.key_chains.specs.Numbers.{number_in}
use Rattle.key_chains.specs.Operations.{candidate_in, kind_of, kind_by, operations}
use Rattle.key_chains.specs.PolicyWriters.{policy_writers}
use Rattle.key_chains.specs.Building.{block_keys, list_at, so_far, Lead, gathered, starts, keys_read, lists_read, lists_touched, keys_written}

-- behind the candidates before i and the first p keys that it writes; those before r have their reads linked
pub record IsBuilt (cs : List Candidate) (i r p : ℕ) (c : Chains) : Type 0 where
  pub keys : c.keys ≡ block_keys cs
  pub operations_count : length c.operations.1 ≡ length c.keys
  pub operations : (k : StateKey) → list_at c.keys c.operations k ≡ so_far (operations cs) (keys_written cs i) i p k
  pub policies_count : length c.policy_writers.1 ≡ length c.keys
  pub policies : (k : StateKey) → list_at c.keys c.policy_writers k ≡ so_far (policy_writers cs) (keys_written cs i) i p k
  pub read_keys : c.read_keys.items ≡ gathered (keys_read cs) r
  pub reads : Lead c.operations.0 c.reads.items (gathered (lists_read cs) r)
  pub first_reads : c.first_reads.items ≡ starts (lists_read cs) r
  pub writers : Lead c.policy_writers.0 (map (λ w. w.policy_writers) c.written.items) (gathered (lists_touched cs) i ++ take p (lists_touched cs i))
  pub numbers : map (λ w. Some w.number) c.written.items ≡ map (number_in c.keys) (gathered (keys_written cs) i ++ take p (keys_written cs i))
  pub first_written : c.first_written.items ≡ starts (keys_written cs) r

-- it is what candidate i writes at place p of its keys
pub record IsNext (cs : List Candidate) (i p : ℕ) (w : WrittenKey) : Type 0 where
  pub place : slice_get (keys_written cs i) p ≡ Some w.key
  pub kind : kind_by (candidate_in cs i) w.key ≡ Some (kind_of w.value)
  pub touches : is_among w.key (touched_by (candidate_in cs i)) ≡ is_some w.policy

-- these are what candidate i writes, from its first key on
abbrev pub AreNext : List Candidate → ℕ → List WrittenKey → Type 0
AreNext cs i ws = (p : ℕ) (w : WrittenKey) → p < length ws → w ≡ slice_index_or ws p w → IsNext cs i p w

-- each key that is numbered has a list of either kind
pub record IsWhole (c : Chains) : Type 0 where
  pub operations : length c.operations.1 ≡ length c.keys
  pub policies : length c.policy_writers.1 ≡ length c.keys
