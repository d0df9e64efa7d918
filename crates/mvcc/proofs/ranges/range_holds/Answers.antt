use Rattle.key_chains.specs.Known.{valid_in}
use Rattle.mvcc.specs.Waiting.{WaitsFor, range_at}
use Rattle.mvcc.proofs.RangeCovers.{decided_range}
use Rattle.mvcc.proofs.RowsStop.{rows_stop}
use Rattle.mvcc.proofs.ranges.range_holds.Goals as goal

pub range_over-requires-clause-stop : goal.range_over-requires-clause-stop
range_over-requires-clause-stop g c = rows_stop c.args.namespace.now c.args.range.now c.args.job.now.state c.rows_between-rows.result c.rows_between-rows.ensures

pub returns-clause-decision : goal.returns-clause-decision
returns-clause-decision g c =
    let known = g.B.Board.known c.range_over.new.board in
    decided_range c.args.job.now c.args.namespace.now c.args.range.now c.rows_between-rows.result c.keys_between-written.result.now c.rows_between-rows.ensures c.keys_between-written.ensures.operated
    (valid_in known) c.args.i (WaitsFor c.args.job.now known c.args.i (range_at c.args.namespace.now c.args.range.now)) c.range_over.result c.requires.in_form c.range_over.ensures.decision
