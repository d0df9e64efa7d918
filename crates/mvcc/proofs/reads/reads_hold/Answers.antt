use Rattle.std.proofs.Common.{add-one, true, ◌∙◌}
use Rattle.rules.specs.Assignment.{state_under}
use Rattle.rules.specs.Reads.{read_holds}
use Rattle.mvcc.proofs.EachTested.{first_at, first_tested}
use Rattle.mvcc.proofs.LookedAt.{of_read}
use Rattle.mvcc.proofs.reads.reads_hold.Goals as goal

pub returns-in-Blocked-clause-decision : goal.returns-in-Blocked-clause-decision
returns-in-Blocked-clause-decision g c =
    of_read c.args.job.now (g.B.Board.known c.read_holds.new.board) c.args.i c.in-Blocked.h c.args.namespace.now c.args.reads.now c.loop-n.n c.index-reads-n.result c.loop-n-test.true c.index-reads-n.is c.in-Blocked.ensures.decision

pub loop-n-preserved : goal.loop-n-preserved
loop-n-preserved g c = record {
  moves = g.met.B.Board.goes_on _ _ _ c.loop-n.invariant.moves c.read_holds.ensures.moves;
  left = rw add-one (first_tested (λ called. read_holds (state_under c.args.job.now called c.args.i) c.args.namespace.now) _ _ c.args.i c.args.reads.now _ _ c.index-reads-n.result true
      (g.met.B.Board.grows _ _ c.read_holds.ensures.moves) (first_at c.args.reads.now c.loop-n.n c.index-reads-n.result c.loop-n-test.true c.index-reads-n.is) c.loop-n.invariant.left
      (λ called agrees. c.in-Sure-true.ensures.decision called agrees ∙ c.in-Sure-true.field-0-test));
}
