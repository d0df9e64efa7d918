use Rattle.std.proofs.Common.{true, false, List, map, sym, ap, ◌∙◌}
use Rattle.rules.specs.declared.row.Row.{Row}
use Rattle.rules.specs.State.{StateKey}
use Rattle.rules.specs.Assignment.{state_under}
use Rattle.rules.specs.Ranges.{is_compared}
use Rattle.mvcc.specs.RangeChecks.{is_listed}
use Rattle.mvcc.proofs.EachTested.{first_tested}
use Rattle.mvcc.proofs.RowsStop.{rest_passes, still_stop}
use Rattle.mvcc.proofs.ranges.are_rows_listed.Goals as goal

pub returns-then-not-is_compared-clause-decision : goal.returns-then-not-is_compared-clause-decision
returns-then-not-is_compared-clause-decision g c = λ called agrees.
    c.loop-row.invariant.left called agrees
    ∙ rest_passes (state_under c.args.job.now called c.args.i) c.args.namespace.now c.args.range.now (map (λ e. e.0.1) c.loop-row.row-iterator) (map (λ e. e.0.1) c.next.new.self) c.in-Some.row.now.0.1
    (ap (λ (es : List (StateKey × Row)). map (λ e. e.0.1) es) c.in-Some.ensures.steps) c.loop-row.invariant.stop (ap (is_compared c.args.range.now) (sym c.key-key.ensures) ∙ sym c.is_compared.ensures ∙ c.if-not-is_compared.true)

pub loop-row-preserved : goal.loop-row-preserved
loop-row-preserved g c = record {
  moves = g.met.B.Board.goes_on _ _ _ c.loop-row.invariant.moves c.is_listed.ensures.moves;
  stop = still_stop c.args.range.now (map (λ e. e.0.1) c.loop-row.row-iterator) (map (λ e. e.0.1) c.next.new.self) c.in-Some.row.now.0.1 (ap (λ (es : List (StateKey × Row)). map (λ e. e.0.1) es) c.in-Some.ensures.steps) c.loop-row.invariant.stop;
  left = first_tested (λ called. is_listed (state_under c.args.job.now called c.args.i) c.args.namespace.now c.args.range.now) _ _ c.args.i (map (λ e. e.0.1) c.args.rows) _ (map (λ e. e.0.1) c.next.new.self) c.in-Some.row.now.0.1 true
      (g.met.B.Board.grows _ _ c.is_listed.ensures.moves) (ap (λ (es : List (StateKey × Row)). map (λ e. e.0.1) es) c.in-Some.ensures.steps) c.loop-row.invariant.left
      (λ called agrees. ap (is_listed (state_under c.args.job.now called c.args.i) c.args.namespace.now c.args.range.now) (sym c.key-key.ensures) ∙ c.in-Sure-true.ensures.decision called agrees ∙ c.in-Sure-true.field-0-test);
}

pub returns-in-Sure-false-clause-decision : goal.returns-in-Sure-false-clause-decision
returns-in-Sure-false-clause-decision g c =
    first_tested (λ called. is_listed (state_under c.args.job.now called c.args.i) c.args.namespace.now c.args.range.now) _ _ c.args.i (map (λ e. e.0.1) c.args.rows) _ (map (λ e. e.0.1) c.next.new.self) c.in-Some.row.now.0.1 false
    (g.met.B.Board.grows _ _ c.is_listed.ensures.moves) (ap (λ (es : List (StateKey × Row)). map (λ e. e.0.1) es) c.in-Some.ensures.steps) c.loop-row.invariant.left
    (λ called agrees. ap (is_listed (state_under c.args.job.now called c.args.i) c.args.namespace.now c.args.range.now) (sym c.key-key.ensures) ∙ c.in-Sure-false.ensures.decision called agrees ∙ c.in-Sure-false.field-0-test)
