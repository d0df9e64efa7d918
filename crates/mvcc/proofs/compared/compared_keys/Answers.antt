use Rattle.std.proofs.Common.{map}
use Rattle.mvcc.proofs.RangeCovers.{cover}
use Rattle.mvcc.proofs.RowsStop.{rows_stop}
use Rattle.mvcc.proofs.ComparedKeys.{either_among}
use Rattle.mvcc.proofs.compared.compared_keys.Goals as goal

pub compared_rows-requires : goal.compared_rows-requires
compared_rows-requires c = record { stop = rows_stop c.args.namespace.now c.args.range.now c.args.job.now.state c.rows_between-rows.result c.rows_between-rows.ensures }

pub returns : goal.returns
returns c called i q compared some =
    either_among q (map (λ e. e.0.1) c.rows_between-rows.result) (map (λ k. k.1) c.keys_between.result.now) c.add_written.new.keys.items
    (cover c.args.job.now c.args.namespace.now c.args.range.now c.rows_between-rows.result c.keys_between.result.now c.rows_between-rows.ensures c.keys_between.ensures.operated called i q compared some)
    c.in_ok-keys.keys.items (c.in_ok-keys.ensures q compared) c.in_ok-add_written.ensures
