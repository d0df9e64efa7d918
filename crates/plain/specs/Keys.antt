-- A key of the state that the code lends. No public contract cites this.
use Rattle.std.specs.Prelude.{List, map}
use Rattle.plain.specs.declared.state_key.StateKey.{StateKey}
use Rattle.rules.specs.State as state

abbrev pub key_of : StateKey → state.StateKey
key_of k = (k.namespace, k.key)

abbrev pub keys_of : List StateKey → List state.StateKey
keys_of keys = map key_of keys
