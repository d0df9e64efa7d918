use Rattle.std.proofs.Common.{add-one, true, false, List, map, sym, ap, ◌∙◌}
use Rattle.rules.specs.State.{StateKey}
use Rattle.rules.specs.Assignment.{state_under}
use Rattle.mvcc.specs.RangeChecks.{is_listed}
use Rattle.mvcc.proofs.EachTested.{first_at, first_tested}
use Rattle.mvcc.proofs.ranges.are_keys_listed.Goals as goal

pub loop-key-preserved : goal.loop-key-preserved
loop-key-preserved g c = record {
  moves = g.met.B.Board.goes_on _ _ _ c.loop-key.invariant.moves c.is_listed.ensures.moves;
  left = rw add-one (first_tested (λ called. is_listed (state_under c.args.job.now called c.args.i) c.args.namespace.now c.args.range.now) _ _ c.args.i (map (λ k. k.1) c.args.keys.now) _ _ c.key-item.result.1 true
      (g.met.B.Board.grows _ _ c.is_listed.ensures.moves) (ap (λ (ks : List StateKey). map (λ k. k.1) ks) (first_at c.args.keys.now c.loop-key.key-index c.key-item.result c.loop-key-test.true c.key-item.is)) c.loop-key.invariant.left
      (λ called agrees. ap (is_listed (state_under c.args.job.now called c.args.i) c.args.namespace.now c.args.range.now) (sym c.key-key.ensures) ∙ c.in-Sure-true.ensures.decision called agrees ∙ c.in-Sure-true.field-0-test));
}

pub returns-in-Sure-false-clause-decision : goal.returns-in-Sure-false-clause-decision
returns-in-Sure-false-clause-decision g c =
    first_tested (λ called. is_listed (state_under c.args.job.now called c.args.i) c.args.namespace.now c.args.range.now) _ _ c.args.i (map (λ k. k.1) c.args.keys.now) _ _ c.key-item.result.1 false
    (g.met.B.Board.grows _ _ c.is_listed.ensures.moves) (ap (λ (ks : List StateKey). map (λ k. k.1) ks) (first_at c.args.keys.now c.loop-key.key-index c.key-item.result c.loop-key-test.true c.key-item.is)) c.loop-key.invariant.left
    (λ called agrees. ap (is_listed (state_under c.args.job.now called c.args.i) c.args.namespace.now c.args.range.now) (sym c.key-key.ensures) ∙ c.in-Sure-false.ensures.decision called agrees ∙ c.in-Sure-false.field-0-test)
