use Rattle.std.proofs.Common.{◌≡◌, ◌++◌, take, map}
use Rattle.plain.specs.Keys.{keys_of}
use Rattle.plain.proofs.state_key.add_policy_keys_in.Given as goal

abbrev pub invariant-loop-write : goal.invariant-loop-write
invariant-loop-write l = keys_of l.keys.items ≡ keys_of l.initial.keys.items ++ map (λ w. (l.set.name, w.key)) (take l.write-index l.set.policy_writes)
