use Rattle.std.proofs.Common.{◌≡◌, ◌<◌, All}
use Rattle.rules.specs.Flags.{is_valid}
use Rattle.rules.specs.Fold.{flag}
use Rattle.reasons_from_state.specs.Writers.{last_setter}
use Rattle.reasons_from_state.proofs.writers.last_setter.Given as goal

abbrev pub invariant-loop-operation : goal.invariant-loop-operation
invariant-loop-operation l = record {
  earlier : All (λ o. o.tx < l.i) l.operation-iterator;
  left : last_setter (λ h. is_valid (flag l.job h)) l.is_there l.fn.operations ≡ last_setter (λ h. is_valid (flag l.job h)) l.is_there l.operation-iterator;
}
