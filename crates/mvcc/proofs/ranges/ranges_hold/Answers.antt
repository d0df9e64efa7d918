use Rattle.std.proofs.Common.{add-one, true, ◌∙◌}
use Rattle.rules.specs.Assignment.{state_under}
use Rattle.rules.specs.Ranges.{range_holds}
use Rattle.rules.specs.ReadWriteSets.{has_results_in_form}
use Rattle.mvcc.proofs.EachTested.{first_at, first_tested, holds_behind}
use Rattle.mvcc.proofs.ranges.ranges_hold.Goals as goal

pub loop-range-preserved : goal.loop-range-preserved
loop-range-preserved g c = record {
  moves = g.met.B.Board.goes_on _ _ _ c.loop-range.invariant.moves c.range_holds.ensures.moves;
  in_form = rw add-one (holds_behind has_results_in_form c.args.ranges.now c.loop-range.range-index c.range-item.result c.loop-range-test.true c.loop-range.invariant.in_form);
  left = rw add-one (first_tested (λ called. range_holds (state_under c.args.job.now called c.args.i) c.args.namespace.now) _ _ c.args.i c.args.ranges.now _ _ c.range-item.result true
      (g.met.B.Board.grows _ _ c.range_holds.ensures.moves) (first_at c.args.ranges.now c.loop-range.range-index c.range-item.result c.loop-range-test.true c.range-item.is) c.loop-range.invariant.left
      (λ called agrees. c.in-Sure-true.ensures.decision called agrees ∙ c.in-Sure-true.field-0-test));
}
