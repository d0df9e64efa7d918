use Rattle.std.proofs.Common.{◌≡◌, ◌++◌, take}
use Rattle.std.specs.Prelude.{flat_map}
use Rattle.plain.specs.Keys.{keys_of}
use Rattle.rules.specs.Effect as effect
use Rattle.plain.proofs.state_key.add_policy_keys.Given as goal

abbrev pub invariant-loop-set : goal.invariant-loop-set
invariant-loop-set l = keys_of l.keys.items ≡ keys_of l.initial.keys.items ++ flat_map effect.policy_keys_in (take l.set-index l.tx.namespaces)
