use Rattle.std.proofs.Common.{◌-◌, sym, ◌∙◌, arith}
use Rattle.reasons_before_state.proofs.Falling.{none_behind}
use Rattle.reasons_before_state.proofs.ranges_in_form.first_fallen.Goals as goal

pub returns : goal.returns
returns c = sym (c.loop-i.invariant ∙ none_behind (c.loop-i.i - 1) c.args.results.now (c.loop-i.i - 1) (omega (arith, c.loop-i-test.false)))
