use Rattle.std.proofs.Common.{◌≡◌, drop}
use Rattle.std.specs.List.{list_all}
use Rattle.candidates.specs.Form.{have_lists_in_form}
use Rattle.candidates.proofs.form.are_lists_in_form.Given as goal

abbrev pub invariant-loop-set : goal.invariant-loop-set
invariant-loop-set l = list_all have_lists_in_form l.sets ≡ list_all have_lists_in_form (drop l.set-index l.sets)
