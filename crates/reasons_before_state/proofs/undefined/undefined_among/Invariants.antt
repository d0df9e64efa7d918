use Rattle.std.proofs.Common.{◌≡◌, not, map, find, drop}
use Rattle.rules.specs.Candidate.{is_defined}
use Rattle.reasons_before_state.proofs.undefined.undefined_among.Given as goal

abbrev pub invariant-loop-key : goal.invariant-loop-key
invariant-loop-key l = find (λ name. not (is_defined l.definitions name)) (map (λ k. k.0) l.keys) ≡ find (λ name. not (is_defined l.definitions name)) (map (λ k. k.0) (drop l.key-index l.keys))
