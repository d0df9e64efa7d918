-- The operations of a block's candidates on one key, the newest first.
use Rattle.std.specs.Prelude.{ℕ, zero, suc, List, [], ◌++◌, Option, Some, None, option_map, option_to_list, slice_index_or}
use Rattle.transaction.specs.declared.transaction.Write.{Write}
use Rattle.transaction.specs.declared.transaction.PolicyWrite.{PolicyWrite}
use Rattle.rules.specs.declared.early_flag.EarlyFlag.TheVariants.{BadPayload}
use Rattle.rules.specs.State.{StateKey}
use Rattle.rules.specs.Effect.{write_of, policy_write_of}
use Rattle.rules.specs.Candidate.{Candidate, flagged, opened, updates}
use Rattle.key_chains.specs.declared.operation.Kind.{Kind}
use Rattle.key_chains.specs.declared.operation.Kind.TheVariants.{Value, Delete, Policy}
use Rattle.key_chains.specs.declared.operation.Operation.{Operation}

abbrev pub candidate_in : List Candidate → ℕ → Candidate
candidate_in cs n = slice_index_or cs n (flagged BadPayload)

-- what the writes of one key are together: a policy that is written beside a value or a delete is no operation of its own
abbrev pub value_kind : Option (List ℕ) → Kind
value_kind (Some value) = Value
value_kind None = Delete

abbrev pub kind_of : Option (Option (List ℕ)) → Kind
kind_of (Some value) = value_kind value
kind_of None = Policy

abbrev pub kind_from : Option Write → Option PolicyWrite → Option Kind
kind_from (Some w) p = Some (value_kind w.value)
kind_from None (Some p) = Some Policy
kind_from None None = None

-- what a candidate does to a key
abbrev pub kind_by : Candidate → StateKey → Option Kind
kind_by (flagged flag) k = None
kind_by (updates u signers) k = None
kind_by (opened tx signers) k = kind_from (write_of tx k) (policy_write_of tx k)

abbrev pub operation_at : List Candidate → StateKey → ℕ → List Operation
operation_at cs k n = option_to_list (option_map (λ kind. record { tx = n; kind = kind }) (kind_by (candidate_in cs n) k))

-- the operations on a key by the candidates before i, the newest first
unfoldable pub operations : List Candidate → StateKey → ℕ → List Operation
operations cs k zero = []
operations cs k (suc n) = operation_at cs k n ++ operations cs k n
