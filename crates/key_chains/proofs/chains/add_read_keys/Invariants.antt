use Rattle.std.proofs.Common.{◌≡◌, ◌++◌, take, map}
use Rattle.std.specs.Prelude.{flat_map}
use Rattle.key_chains.proofs.chains.add_read_keys.Given as goal

abbrev pub invariant-loop-set : goal.invariant-loop-set
invariant-loop-set l = l.keys.items ≡ l.initial.keys.items ++ flat_map (λ n. map (λ r. (n.name, r.key)) n.reads) (take l.set-index l.tx.namespaces)
