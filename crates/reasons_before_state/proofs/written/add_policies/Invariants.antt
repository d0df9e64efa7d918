use Rattle.std.proofs.Common.{◌≡◌, ◌++◌, map, take}
use Rattle.reasons_before_state.proofs.written.add_policies.Given as goal

abbrev pub invariant-loop-write : goal.invariant-loop-write
invariant-loop-write l = l.keys.items ≡ l.initial.keys.items ++ map (λ w. (l.set.name, w.key)) (take l.write-index l.set.policy_writes)
