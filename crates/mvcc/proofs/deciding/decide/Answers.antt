use Rattle.rules.specs.Assignment.{reads_under}
use Rattle.rules.specs.Sure.{Sure}
use Rattle.key_chains.specs.Known.{valid_in}
use Rattle.mvcc.proofs.Agreeing.{none_waited_for}
use Rattle.mvcc.proofs.FirstFault.{decided_reads}
use Rattle.mvcc.proofs.deciding.decide.Goals as goal

pub returns-in-Some-clause-decision : goal.returns-in-Some-clause-decision
returns-in-Some-clause-decision g c =
    decided_reads c.args.job.now (g.B.Board.known c.sets_verdict.new.board) c.args.i c.in-Some.open_tx.now c.sets_verdict.result c.in-Some.ensures.tx c.as_slice.result.now c.as_slice.ensures c.sets_verdict.ensures.decision

pub returns-in-Some-clause-decided : goal.returns-in-Some-clause-decided
returns-in-Some-clause-decided g c =
    let known = g.B.Board.known c.sets_verdict.new.board in
    none_waited_for c.args.i _ known c.sets_verdict.result _ (λ v. Sure (reads_under c.args.job.now) (valid_in known) c.args.i v) (g.met.B.Board.grows _ _ c.sets_verdict.ensures.moves) (
    decided_reads c.args.job.now known c.args.i c.in-Some.open_tx.now c.sets_verdict.result c.in-Some.ensures.tx c.as_slice.result.now c.as_slice.ensures c.sets_verdict.ensures.decision)
