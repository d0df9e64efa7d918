use Rattle.std.proofs.Common.{◌≡◌, ◌++◌, map, take}
use Rattle.mvcc.proofs.compared.add_written.Given as goal

abbrev pub invariant-loop-key : goal.invariant-loop-key
invariant-loop-key l = l.keys.items ≡ l.initial.keys.items ++ map (λ k. k.1) (take l.key-index l.written)
