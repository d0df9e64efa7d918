use Rattle.std.proofs.lemmas.Result.{err_from_is_err_and}
use Rattle.block.specs.Reading.{txs_at}
use Rattle.block.proofs.Transactions.{goes_on, ends, is_done}
use Rattle.block.proofs.reader.read_txs.Goals as goal

pub returns-in_err-tx : goal.returns-in_err-tx
returns-in_err-tx c =
    let p = err_from_is_err_and c.from_residual-in_err-tx.result c.from_residual-in_err-tx.ensures.1 in
    rw (p.1, p.2) (ends c.in_err-tx.field-0.0 c.loop.txs c.args.count c.loop.counter c.loop.rest.now (txs_at c.args.count c.args.bytes.now) c.loop-test.true c.in_err-tx.ensures c.loop.invariant)

pub loop-preserved : goal.loop-preserved
loop-preserved c =
    rw c.in_ok-push.ensures.ok (goes_on c.loop.txs c.args.count c.loop.counter c.loop.rest.now c.in_ok-tx.tx c.in_ok-tx.after.now (txs_at c.args.count c.args.bytes.now) c.loop-test.true c.in_ok-tx.ensures c.loop.invariant)

pub returns : goal.returns
returns c = is_done c.loop.txs c.args.count c.loop.counter c.loop.rest.now (txs_at c.args.count c.args.bytes.now) c.loop-test.false c.loop.invariant
