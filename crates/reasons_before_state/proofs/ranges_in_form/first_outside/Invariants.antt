use Rattle.std.proofs.Common.{◌≡◌, map, drop}
use Rattle.reasons.specs.Form.{first_outside}
use Rattle.reasons_before_state.proofs.ranges_in_form.first_outside.Given as goal

abbrev pub invariant-loop-place : goal.invariant-loop-place
invariant-loop-place l = first_outside l.range.start l.range.end 0 (map (λ x. x.key) l.range.results) ≡ first_outside l.range.start l.range.end l.place (map (λ x. x.key) (drop l.place l.range.results))
