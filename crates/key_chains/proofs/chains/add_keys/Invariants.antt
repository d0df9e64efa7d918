use Rattle.std.proofs.Common.{◌≡◌, ◌++◌, take, map}
use Rattle.key_chains.proofs.chains.add_keys.Given as goal

abbrev pub invariant-loop-one : goal.invariant-loop-one
invariant-loop-one l = l.keys.items ≡ l.initial.keys.items ++ map (λ w. w.key) (take l.one-index l.written)
