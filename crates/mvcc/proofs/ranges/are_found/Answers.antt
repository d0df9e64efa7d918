use Rattle.std.proofs.Common.{add-one, true, ◌∙◌}
use Rattle.rules.specs.Assignment.{state_under}
use Rattle.mvcc.specs.RangeChecks.{is_found}
use Rattle.mvcc.proofs.EachTested.{first_at, first_tested}
use Rattle.mvcc.proofs.ranges.are_found.Goals as goal

pub loop-found-preserved : goal.loop-found-preserved
loop-found-preserved g c = record {
  moves = g.met.B.Board.goes_on _ _ _ c.loop-found.invariant.moves c.is_found.ensures.moves;
  left = rw add-one (first_tested (λ called. is_found (state_under c.args.job.now called c.args.i) c.args.namespace.now c.args.range.now) _ _ c.args.i c.args.results.now _ _ c.found-item.result true
      (g.met.B.Board.grows _ _ c.is_found.ensures.moves) (first_at c.args.results.now c.loop-found.found-index c.found-item.result c.loop-found-test.true c.found-item.is) c.loop-found.invariant.left
      (λ called agrees. c.in-Sure-true.ensures.decision called agrees ∙ c.in-Sure-true.field-0-test));
}
