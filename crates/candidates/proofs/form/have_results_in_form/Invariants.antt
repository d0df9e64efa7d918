use Rattle.std.proofs.Common.{◌≡◌, drop}
use Rattle.std.specs.List.{list_all}
use Rattle.rules.specs.ReadWriteSets.{has_results_in_form}
use Rattle.candidates.proofs.form.have_results_in_form.Given as goal

abbrev pub invariant-loop-range : goal.invariant-loop-range
invariant-loop-range l = list_all has_results_in_form l.ranges ≡ list_all has_results_in_form (drop l.range-index l.ranges)
