use Rattle.std.proofs.Common.{min, arith, ap, ◌∙◌}
use Rattle.rules.specs.Assignment.{version_under}
use Rattle.rules.specs.Sure.{Sure}
use Rattle.key_chains.specs.Known.{valid_in}
use Rattle.mvcc.proofs.Agreeing.{none_waited_for}
use Rattle.mvcc.proofs.Beyond.{decided_beyond}
use Rattle.mvcc.proofs.version.version_at.Goals as goal

pub returns-clause-decision : goal.returns-clause-decision
returns-clause-decision g c =
    decided_beyond c.args.job.now c.args.key.now (g.B.Board.known c.version_over.new.board) c.args.i c.min-i.result c.version_over.result (c.min-i.ensures ∙ ap (min c.args.i) c.len.ensures.value) c.version_over.ensures.decision

pub returns-clause-decided : goal.returns-clause-decided
returns-clause-decided g c known_all =
    let known = g.B.Board.known c.version_over.new.board in
    none_waited_for c.min-i.result _ known c.version_over.result _ (λ v. Sure (version_under c.args.job.now c.args.key.now) (valid_in known) c.min-i.result v) (g.met.B.Board.grows _ _ c.version_over.ensures.moves) c.version_over.ensures.decision
    (λ h lt. known_all h (omega (arith, c.min-i.ensures, lt)))
