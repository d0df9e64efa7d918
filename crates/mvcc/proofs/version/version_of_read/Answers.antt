use Rattle.std.proofs.Common.{[], get_or, refl, sym, ◌∙◌}
use Rattle.std.proofs.lemmas.Option.{slice_get-get_or}
use Rattle.rules.specs.State.{StateKey, version_in}
use Rattle.rules.specs.Job.{candidate_at}
use Rattle.key_chains.specs.Job.{read_by}
use Rattle.mvcc.specs.declared.walk.Finding.TheVariants.{Open, Settled}
use Rattle.mvcc.proofs.SureVersions.{earlier, depends, sure_version}
use Rattle.mvcc.proofs.version.version_of_read.Goals as goal

pub walk-requires-clause-earlier : goal.walk-requires-clause-earlier
walk-requires-clause-earlier g c =
    let k : StateKey = get_or (read_by (candidate_at c.args.job.now c.args.i)) c.args.place ([], []) in
    earlier c.args.job.now k c.args.i c.operations_on_read-operations.result (c.operations_on_read-operations.ensures k (slice_get-get_or _ c.args.place ([], []) c.requires.place))

pub returns-in-Sure-Open-clause-decision : goal.returns-in-Sure-Open-clause-decision
returns-in-Sure-Open-clause-decision g c k here =
    let sure = sure_version c.args.job.now k c.args.i c.operations_on_read-operations.result (c.operations_on_read-operations.ensures k here) (g.B.Board.known c.walk.new.board) c.number.result c.version_before_read.result c.in-Sure-Open.field-0 (Open c.in-Sure-Open.noted)
    c.number.ensures (c.version_before_read.ensures k here) c.in-Sure-Open.ensures.decision c.in-Sure-Open.field-0-is in
    λ called agrees. sure called agrees ∙ sym c.noted_over.ensures

pub returns-in-Sure-Settled-clause-decision : goal.returns-in-Sure-Settled-clause-decision
returns-in-Sure-Settled-clause-decision g c k here =
    sure_version c.args.job.now k c.args.i c.operations_on_read-operations.result (c.operations_on_read-operations.ensures k here) (g.B.Board.known c.walk.new.board) c.number.result
    (version_in c.args.job.now.state k) c.in-Sure-Settled.field-0 (Settled c.in-Sure-Settled.version)
    c.number.ensures refl c.in-Sure-Settled.ensures.decision c.in-Sure-Settled.field-0-is

pub returns-in-Blocked-clause-decision : goal.returns-in-Blocked-clause-decision
returns-in-Blocked-clause-decision g c k here =
    (depends c.args.job.now k c.args.i c.operations_on_read-operations.result (c.operations_on_read-operations.ensures k here) c.in-Blocked.h c.in-Blocked.ensures.decision.0, c.in-Blocked.ensures.decision.1)
