use Rattle.std.proofs.Common.{◌≡◌, drop}
use Rattle.std.specs.List.{list_all}
use Rattle.rules.specs.ReadWriteSets.{is_set_in_form}
use Rattle.plain.proofs.sets.is_in_form.Given as goal

abbrev pub invariant-loop-set : goal.invariant-loop-set
invariant-loop-set l = list_all is_set_in_form l.sets ≡ list_all is_set_in_form (drop l.set-index l.sets)
