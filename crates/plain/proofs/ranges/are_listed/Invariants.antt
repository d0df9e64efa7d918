use Rattle.std.proofs.Common.{◌≡◌, drop}
use Rattle.std.specs.List.{list_all}
use Rattle.plain.specs.RangeChecks.{is_listed}
use Rattle.plain.specs.StateNow.{state_now}
use Rattle.plain.proofs.ranges.are_listed.Given as goal

abbrev pub invariant-loop-change : goal.invariant-loop-change
invariant-loop-change l = list_all (is_listed (state_now l.state) l.namespace l.range) l.changes ≡ list_all (is_listed (state_now l.state) l.namespace l.range) (drop l.change-index l.changes)
