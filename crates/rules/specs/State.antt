-- The state: a finite map from a namespace and a key in it to a row.
use Rattle.std.specs.Prelude.{ℕ, List, [], ◌∷◌, Bool, ◌&&◌, Option, Some, None, option_map, option_and_then}
use Rattle.std.specs.declared.cmp.Ordering.{Ordering}
use Rattle.std.specs.Ordering.{then_cmp, on}
use Rattle.std.specs.List.{list_any}
use Rattle.std.specs.Str.{bytes_eq}
use Rattle.std.specs.FinMap.{FinMap, get, insert, remove}
use Rattle.transaction.specs.declared.transaction.Version.{Version}
use Rattle.policy.specs.Tree.{Tree}
use Rattle.values.specs.Order.{bytes_cmp}
use Rattle.rules.specs.declared.row.Row.{Row}

-- a namespace, and a key in it
abbrev pub StateKey : Type 0
StateKey = List ℕ × List ℕ

-- the order of keys: by the namespace's bytes, then by the key's
abbrev pub key_cmp : StateKey → StateKey → Ordering
key_cmp = then_cmp (on (λ k. k.0) bytes_cmp) (on (λ k. k.1) bytes_cmp)

abbrev pub is_same_key : StateKey → StateKey → Bool
is_same_key a b = bytes_eq a.0 b.0 && bytes_eq a.1 b.1

abbrev pub is_among : StateKey → List StateKey → Bool
is_among k keys = list_any (is_same_key k) keys

abbrev pub KeyMap : Type 0 → Type 0
KeyMap X = FinMap {K = StateKey} key_cmp X

abbrev pub State : Type 0
State = KeyMap Row

-- the version of a key, or none where it is absent
abbrev pub version_in : State → StateKey → Option Version
version_in s k = option_map (λ row. row.version) (get s k)

-- the policy of a key, where it has one
abbrev pub policy_in : State → StateKey → Option Tree
policy_in s k = option_and_then (λ row. row.policy) (get s k)

-- ---- changes

-- what a key has from now on, or none where it is removed
abbrev pub ChangeOf : Type 0 → Type 0
ChangeOf X = StateKey × Option X

abbrev pub set_at : {X : Type 0} → KeyMap X → StateKey → Option X → KeyMap X
set_at m k None = remove m k
set_at m k (Some x) = insert m k x

-- the map after changes, one after the other
unfoldable pub with_changes : {X : Type 0} → KeyMap X → List (ChangeOf X) → KeyMap X
with_changes m [] = m
with_changes m (c ∷ cs) = with_changes (set_at m c.0 c.1) cs
