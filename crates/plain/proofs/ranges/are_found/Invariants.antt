use Rattle.std.proofs.Common.{◌≡◌, drop}
use Rattle.std.specs.List.{list_all}
use Rattle.plain.specs.RangeChecks.{is_found}
use Rattle.plain.specs.StateNow.{state_now}
use Rattle.plain.proofs.ranges.are_found.Given as goal

abbrev pub invariant-loop-found : goal.invariant-loop-found
invariant-loop-found l = list_all (is_found (state_now l.state) l.namespace l.range) l.range.results ≡ list_all (is_found (state_now l.state) l.namespace l.range) (drop l.found-index l.range.results)
