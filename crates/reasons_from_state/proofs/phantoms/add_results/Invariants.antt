use Rattle.std.proofs.Common.{◌≡◌, ◌++◌, map, take}
use Rattle.reasons_from_state.proofs.phantoms.add_results.Given as goal

abbrev pub invariant-loop-found : goal.invariant-loop-found
invariant-loop-found l = l.keys.items ≡ l.initial.keys.items ++ map (λ x. x.key) (take l.found-index l.results)
