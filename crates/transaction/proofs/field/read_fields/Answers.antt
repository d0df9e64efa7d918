use Rattle.std.proofs.lemmas.Result.{err_from_is_err_and}
use Rattle.transaction.specs.Combined.{fields_at}
use Rattle.transaction.proofs.FieldLoop.{goes_on, ends, is_done}
use Rattle.transaction.proofs.field.read_fields.Goals as goal

pub returns-in_err-item : goal.returns-in_err-item
returns-in_err-item g c =
    let p = err_from_is_err_and c.from_residual-in_err-item.result c.from_residual-in_err-item.ensures.1 in
    rw (p.1, p.2) (ends g.T.Field.read_at (fields_at g.T.Field.read_at c.args.count c.args.bytes.now) c.in_err-item.field-0.0 c.loop.items c.args.count c.loop.counter c.loop.rest.now c.loop-test.true c.in_err-item.ensures c.loop.invariant)

pub loop-preserved : goal.loop-preserved
loop-preserved g c =
    rw c.in_ok-push.ensures.ok (goes_on g.T.Field.read_at (fields_at g.T.Field.read_at c.args.count c.args.bytes.now) c.loop.items c.args.count c.loop.counter c.loop.rest.now c.in_ok-item.item c.in_ok-item.after.now c.loop-test.true c.in_ok-item.ensures c.loop.invariant)

pub returns : goal.returns
returns g c = is_done g.T.Field.read_at (fields_at g.T.Field.read_at c.args.count c.args.bytes.now) c.loop.items c.args.count c.loop.counter c.loop.rest.now c.loop-test.false c.loop.invariant
