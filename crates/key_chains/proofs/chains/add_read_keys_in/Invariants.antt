use Rattle.std.proofs.Common.{◌≡◌, ◌++◌, take, map}
use Rattle.key_chains.proofs.chains.add_read_keys_in.Given as goal

abbrev pub invariant-loop-read : goal.invariant-loop-read
invariant-loop-read l = l.keys.items ≡ l.initial.keys.items ++ map (λ r. (l.set.name, r.key)) (take l.read-index l.set.reads)
