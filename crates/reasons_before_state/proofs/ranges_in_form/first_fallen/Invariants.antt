use Rattle.std.proofs.Common.{◌≡◌, ◌-◌, map, drop}
use Rattle.reasons.specs.Form.{first_fallen}
use Rattle.reasons_before_state.proofs.ranges_in_form.first_fallen.Given as goal

abbrev pub invariant-loop-i : goal.invariant-loop-i
invariant-loop-i l = first_fallen 0 (map (λ x. x.key) l.results) ≡ first_fallen (l.i - 1) (map (λ x. x.key) (drop (l.i - 1) l.results))
