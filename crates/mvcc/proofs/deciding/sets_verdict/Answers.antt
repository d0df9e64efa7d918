use Rattle.std.proofs.Common.{add-one, arith, ◌∙◌}
use Rattle.rules.specs.declared.read_verdict.ReadVerdict.TheVariants.{Good, Stale, Phantom}
use Rattle.rules.specs.Job.{candidate_at}
use Rattle.rules.specs.ReadWriteSets.{is_set_in_form}
use Rattle.key_chains.specs.Job.{read_by}
use Rattle.mvcc.proofs.EachTested.{first_at, holds_behind}
use Rattle.mvcc.proofs.FirstFault.{one_set}
use Rattle.mvcc.proofs.NumberedReads.{reads_from, fits, next_after}
use Rattle.mvcc.proofs.deciding.sets_verdict.Goals as goal

pub set_verdict-requires-clause-places : goal.set_verdict-requires-clause-places
set_verdict-requires-clause-places g c =
    reads_from (read_by (candidate_at c.args.job.now c.args.i)) c.loop-set.first _ _ c.set-item.result (first_at c.args.sets.now c.loop-set.set-index c.set-item.result c.loop-set-test.true c.set-item.is) c.loop-set.invariant.next c.requires.countable

pub returns-in-Sure-Stale-clause-decision : goal.returns-in-Sure-Stale-clause-decision
returns-in-Sure-Stale-clause-decision g c =
    one_set c.args.job.now _ _ c.args.i c.args.sets.now _ _ c.set-item.result Stale
    (g.met.B.Board.grows _ _ c.set_verdict.ensures.moves) (first_at c.args.sets.now c.loop-set.set-index c.set-item.result c.loop-set-test.true c.set-item.is) c.loop-set.invariant.left
    (λ called agrees. c.in-Sure-Stale.ensures.decision called agrees ∙ c.in-Sure-Stale.field-0-is)

pub returns-in-Sure-Phantom-clause-decision : goal.returns-in-Sure-Phantom-clause-decision
returns-in-Sure-Phantom-clause-decision g c =
    one_set c.args.job.now _ _ c.args.i c.args.sets.now _ _ c.set-item.result Phantom
    (g.met.B.Board.grows _ _ c.set_verdict.ensures.moves) (first_at c.args.sets.now c.loop-set.set-index c.set-item.result c.loop-set-test.true c.set-item.is) c.loop-set.invariant.left
    (λ called agrees. c.in-Sure-Phantom.ensures.decision called agrees ∙ c.in-Sure-Phantom.field-0-is)

pub overflow_add-first : goal.overflow_add-first
overflow_add-first g c =
    let within = fits (read_by (candidate_at c.args.job.now c.args.i)) c.loop-set.first _ _ c.set-item.result (first_at c.args.sets.now c.loop-set.set-index c.set-item.result c.loop-set-test.true c.set-item.is) c.loop-set.invariant.next in
    omega (arith, within, c.requires.countable, c.len-first.ensures)

pub loop-set-preserved : goal.loop-set-preserved
loop-set-preserved g c = record {
  moves = g.met.B.Board.goes_on _ _ _ c.loop-set.invariant.moves c.set_verdict.ensures.moves;
  in_form = rw add-one (holds_behind is_set_in_form c.args.sets.now c.loop-set.set-index c.set-item.result c.loop-set-test.true c.loop-set.invariant.in_form);
  next = rw (add-one, c.len-first.ensures) (next_after (read_by (candidate_at c.args.job.now c.args.i)) c.loop-set.first _ _ c.set-item.result (first_at c.args.sets.now c.loop-set.set-index c.set-item.result c.loop-set-test.true c.set-item.is) c.loop-set.invariant.next);
  left = rw add-one (one_set c.args.job.now _ _ c.args.i c.args.sets.now _ _ c.set-item.result Good
      (g.met.B.Board.grows _ _ c.set_verdict.ensures.moves) (first_at c.args.sets.now c.loop-set.set-index c.set-item.result c.loop-set-test.true c.set-item.is) c.loop-set.invariant.left
      (λ called agrees. c.in-Sure-Good.ensures.decision called agrees ∙ c.in-Sure-Good.field-0-is));
}
