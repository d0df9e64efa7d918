-- What a valid transaction makes of the state, key by key (Fabric documentation, 'Read-Write set semantics'). What a policy
-- write without a row makes is our own.
use Rattle.std.specs.Prelude.{ℕ, List, ◌++◌, map, find, flat_map, Option, Some, None, option_map, option_and_then}
use Rattle.std.specs.Str.{bytes_eq}
use Rattle.std.specs.FinMap.{get}
use Rattle.transaction.specs.declared.transaction.Version.{Version}
use Rattle.transaction.specs.declared.transaction.Write.{Write}
use Rattle.transaction.specs.declared.transaction.PolicyWrite.{PolicyWrite}
use Rattle.transaction.specs.declared.transaction.NsSet.{NsSet}
use Rattle.transaction.specs.declared.transaction.Tx.{Tx}
use Rattle.policy.specs.Tree.{Tree}
use Rattle.policy.specs.Meaning.{policy_of}
use Rattle.rules.specs.declared.row.Row.{Row}
use Rattle.rules.specs.State.{StateKey, State, ChangeOf, with_changes}

-- what a transaction did in a namespace
abbrev pub set_of : Tx → List ℕ → Option NsSet
set_of tx namespace = find (λ n. bytes_eq namespace n.name) tx.namespaces

-- the write of a key, and the write of its policy, where there is one
abbrev pub write_of : Tx → StateKey → Option Write
write_of tx k = option_and_then (λ n. find (λ w. bytes_eq k.1 w.key) n.writes) (set_of tx k.0)

abbrev pub policy_write_of : Tx → StateKey → Option PolicyWrite
policy_write_of tx k = option_and_then (λ n. find (λ w. bytes_eq k.1 w.key) n.policy_writes) (set_of tx k.0)

abbrev pub value_keys_in : NsSet → List StateKey
value_keys_in n = map (λ w. (n.name, w.key)) n.writes

abbrev pub policy_keys_in : NsSet → List StateKey
policy_keys_in n = map (λ w. (n.name, w.key)) n.policy_writes

-- the keys whose policy it writes
abbrev pub policy_keys : Tx → List StateKey
policy_keys tx = flat_map policy_keys_in tx.namespaces

-- the keys that it writes, by value, delete or policy; one in both lists comes twice
abbrev pub written_keys : Tx → List StateKey
written_keys tx = flat_map (λ n. value_keys_in n ++ policy_keys_in n) tx.namespaces

-- the policy that a policy write leaves, none where it removes it
abbrev pub policy_left : PolicyWrite → Option Tree
policy_left w = option_and_then policy_of w.policy

-- the policy beside a written value: the one written beside it, else the one that the row had
abbrev pub policy_after : Option PolicyWrite → Option Row → Option Tree
policy_after (Some w) row = policy_left w
policy_after None row = option_and_then (λ r. r.policy) row

-- What the writes of one key make of its row. A delete removes it, whatever is written beside it. A policy write alone keeps
-- the value, sets version and policy, and has no effect without a row.
abbrev pub row_after : Version → Option Write → Option PolicyWrite → Option Row → Option Row
row_after v (Some w) p row = option_map (λ value. record { value = value; version = v; policy = policy_after p row }) w.value
row_after v None (Some p) row = option_map (λ r. record { value = r.value; version = v; policy = policy_left p }) row
row_after v None None row = row

abbrev pub effect_at : Version → Tx → StateKey → Option Row → Option Row
effect_at v tx k row = row_after v (write_of tx k) (policy_write_of tx k) row

-- the changes of a state by a valid transaction
abbrev pub changes_of : Version → Tx → State → List (ChangeOf Row)
changes_of v tx s = map (λ k. (k, effect_at v tx k (get s k))) (written_keys tx)

-- the state after a valid transaction
abbrev pub effect : Version → Tx → State → State
effect v tx s = with_changes s (changes_of v tx s)
