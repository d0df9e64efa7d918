use Rattle.std.proofs.Common.{◌≡◌, map, drop}
use Rattle.reasons.specs.First.{first_there}
use Rattle.reasons.specs.Form.{set_fault}
use Rattle.reasons_before_state.proofs.form.sets_fault.Given as goal

abbrev pub invariant-loop-set : goal.invariant-loop-set
invariant-loop-set l = first_there (map set_fault l.sets) ≡ first_there (map set_fault (drop l.set-index l.sets))
