-- A row by what one transaction writes at its key, in the parts that are known. No public contract cites this.
use Rattle.std.specs.Prelude.{ℕ, List, [], ◌∷◌, Option, Some, None, option_map, option_and_then}
use Rattle.std.specs.FinMap.{get}
use Rattle.transaction.specs.declared.transaction.Version.{Version}
use Rattle.policy.specs.Tree.{Tree}
use Rattle.rules.specs.declared.row.Row.{Row}
use Rattle.rules.specs.State.{State, set_at}
use Rattle.candidates.specs.declared.written_key.WrittenKey.{WrittenKey}

-- the policy for a written value: the one written with it, otherwise the one that the row had
abbrev pub policy_beside : Option (Option Tree) → Option Row → Option Tree
policy_beside (Some policy) row = policy
policy_beside None row = option_and_then (λ r. r.policy) row

-- the row if only its policy is written
abbrev pub row_kept : Version → Option Tree → Option Row → Option Row
row_kept v policy row = option_map (λ r. record { value = r.value; version = v; policy = policy }) row

abbrev pub row_by_parts : Version → Option (Option (List ℕ)) → Option (Option Tree) → Option Row → Option Row
row_by_parts v (Some value) policy row = option_map (λ x. record { value = x; version = v; policy = policy_beside policy row }) value
row_by_parts v None (Some policy) row = row_kept v policy row
row_by_parts v None None row = row

abbrev pub row_written : Version → WrittenKey → Option Row → Option Row
row_written v w row = row_by_parts v w.value w.policy row

-- the state after these are written, one after the other
abbrev pub with_write : Version → State → WrittenKey → State
with_write v s w = set_at s w.key (row_written v w (get s w.key))

unfoldable pub with_writes : Version → State → List WrittenKey → State
with_writes v s [] = s
with_writes v s (w ∷ ws) = with_writes v (with_write v s w) ws
