use Rattle.std.proofs.Common.{◌≡◌, ◌++◌, take}
use Rattle.std.specs.Prelude.{flat_map}
use Rattle.rules.specs.Effect.{value_keys_in, policy_keys_in}
use Rattle.reasons_before_state.proofs.written.written_keys.Given as goal

abbrev pub invariant-loop-set : goal.invariant-loop-set
invariant-loop-set l = l.keys.items ≡ flat_map (λ n. value_keys_in n ++ policy_keys_in n) (take l.set-index l.tx.namespaces)
