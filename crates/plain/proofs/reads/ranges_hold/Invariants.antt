use Rattle.std.proofs.Common.{◌≡◌, drop}
use Rattle.std.specs.Prelude.{IsTrue}
use Rattle.std.specs.List.{list_all}
use Rattle.rules.specs.Ranges.{range_holds}
use Rattle.rules.specs.ReadWriteSets.{has_results_in_form}
use Rattle.plain.specs.StateNow.{state_now}
use Rattle.plain.proofs.reads.ranges_hold.Given as goal

abbrev pub invariant-loop-range : goal.invariant-loop-range
invariant-loop-range l = record {
  in_form : IsTrue (list_all has_results_in_form (drop l.range-index l.ranges));
  left : list_all (range_holds (state_now l.state) l.namespace) l.ranges
      ≡ list_all (range_holds (state_now l.state) l.namespace) (drop l.range-index l.ranges);
}
