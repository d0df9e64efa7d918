-- The keys that a transaction writes, in their order, each once, with what it writes there.
use Rattle.std.specs.Prelude.{◌≡◌, ℕ, List, map, All, Option, option_map, IsTrue}
use Rattle.std.specs.FinMap.{keys, from_entries}
use Rattle.transaction.specs.declared.transaction.Tx.{Tx}
use Rattle.policy.specs.Tree.{Tree}
use Rattle.rules.specs.State.{StateKey, key_cmp}
use Rattle.rules.specs.Effect.{write_of, policy_write_of, policy_left, written_keys}
use Rattle.rules.specs.ReadWriteSets.{is_in_form}
use Rattle.candidates.specs.declared.written_key.WrittenKey.{WrittenKey}

-- the keys of a list in their order, each once: those of a map that has nothing at each of them
unfoldable pub keys_in_order : List StateKey → List StateKey
keys_in_order ks = keys (from_entries {X = Unit {0}} {R = key_cmp} (map (λ k. (k, tt)) ks))

-- the value that is written at a key, `Some None` being a delete
abbrev pub value_at : Tx → StateKey → Option (Option (List ℕ))
value_at tx k = option_map (λ w. w.value) (write_of tx k)

-- the policy that is written, `Some None` if it is removed
abbrev pub policy_at : Tx → StateKey → Option (Option Tree)
policy_at tx k = option_map policy_left (policy_write_of tx k)

-- it is what the transaction writes at its key
abbrev pub IsWriteOf : Tx → WrittenKey → Type 0
IsWriteOf tx w = (w.value ≡ value_at tx w.key) × (w.policy ≡ policy_at tx w.key)

-- these are what the transaction writes
pub record AreWritesOf (tx : Tx) (ws : List WrittenKey) : Type 0 where
  pub keys : map (λ w. w.key) ws ≡ keys_in_order (written_keys tx)
  pub each : All (IsWriteOf tx) ws

-- its read and write sets are well-formed, and these are what it writes
pub record IsGathered (tx : Tx) (ws : List WrittenKey) : Type 0 where
  pub in_form : IsTrue (is_in_form tx)
  pub writes : AreWritesOf tx ws
