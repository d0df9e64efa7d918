-- The chains of a block on the way: behind the candidates before one, and the first of the keys that it writes. No public
-- contract cites this.
use Rattle.std.specs.Prelude.{◌≡◌, ℕ, zero, suc, Bool, List, [], ◌∷◌, ◌++◌, length, map, flat_map, take, Option, Some, None, if◌then◌else◌, All}
use Rattle.std.specs.Ordering.{is_lt, is_le}
use Rattle.values.specs.Order.{bytes_cmp}
use Rattle.rules.specs.State.{StateKey, key_cmp, is_among}
use Rattle.rules.specs.Candidate.{Candidate}
use Rattle.candidates.specs.Written.{keys_in_order}
use Rattle.key_chains.specs.declared.operation.Operation.{Operation}
use Rattle.key_chains.specs.Linked.{KeyedLists, chain_in, list_of, IsLink}
use Rattle.key_chains.specs.Numbers.{number_in}
use Rattle.key_chains.specs.Operations.{candidate_in, operations}
use Rattle.key_chains.specs.PolicyWriters.{policy_writers}
use Rattle.key_chains.specs.Job.{read_by, written_by}

-- the keys that a block writes, in order, each once
abbrev pub block_keys : List Candidate → List StateKey
block_keys cs = keys_in_order (flat_map written_by cs)

-- the key stands before an end in a namespace, an empty end being that of the namespace
abbrev pub stands_below : List ℕ → List ℕ → StateKey → Bool
stands_below namespace [] k = is_le (bytes_cmp k.0 namespace)
stands_below namespace (b ∷ bs) k = is_lt (key_cmp k (namespace, b ∷ bs))

-- ---- lists of keys

abbrev pub list_numbered : {X : Type 0} → KeyedLists X → Option ℕ → List X
list_numbered lists None = []
list_numbered lists (Some n) = list_of lists n

-- the list of a key, empty where it has no number
abbrev pub list_at : {X : Type 0} → List StateKey → KeyedLists X → StateKey → List X
list_at keys lists k = list_numbered lists (number_in keys k)

-- a key's list behind the candidates before i, and the first p keys that candidate i writes
abbrev pub so_far : {X : Type 0} → (StateKey → ℕ → List X) → List StateKey → ℕ → ℕ → StateKey → List X
so_far list written i p k = if is_among k (take p written) then list k (suc i) else list k i

-- ---- links

-- these links lead to these lists
pub record Lead {X : Type 0} (lists : List (List X)) (links : List (Option ℕ)) (to : List (List X)) : Type 0 where
  pub are_links : All (IsLink lists) links
  pub lead : map (chain_in lists) links ≡ to

-- what each candidate before n gives, one behind the other
unfoldable pub gathered : {X : Type 0} → (ℕ → List X) → ℕ → List X
gathered give zero = []
gathered give (suc n) = gathered give n ++ give n

-- where that of each begins
unfoldable pub starts : {X : Type 0} → (ℕ → List X) → ℕ → List ℕ
starts give zero = []
starts give (suc n) = starts give n ++ length (gathered give n) ∷ []

abbrev pub keys_read : List Candidate → ℕ → List StateKey
keys_read cs i = read_by (candidate_in cs i)

-- the lists before it on the keys that a candidate reads
abbrev pub lists_read : List Candidate → ℕ → List (List Operation)
lists_read cs i = map (λ k. operations cs k i) (keys_read cs i)

-- the writers before it of the policies of the keys that a candidate writes
abbrev pub lists_touched : List Candidate → ℕ → List (List ℕ)
lists_touched cs i = map (λ k. policy_writers cs k i) (written_by (candidate_in cs i))

abbrev pub keys_written : List Candidate → ℕ → List StateKey
keys_written cs i = written_by (candidate_in cs i)
