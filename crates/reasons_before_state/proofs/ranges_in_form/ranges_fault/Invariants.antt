use Rattle.std.proofs.Common.{◌≡◌, drop}
use Rattle.reasons.specs.Form.{ranges_fault}
use Rattle.reasons_before_state.proofs.ranges_in_form.ranges_fault.Given as goal

abbrev pub invariant-loop-range_place : goal.invariant-loop-range_place
invariant-loop-range_place l = ranges_fault l.namespace 0 l.ranges ≡ ranges_fault l.namespace l.range_place (drop l.range_place l.ranges)
