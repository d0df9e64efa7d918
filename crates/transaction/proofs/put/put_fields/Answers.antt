use Rattle.transaction.proofs.PutLoop.{put_more, put_all}
use Rattle.transaction.proofs.put.put_fields.Goals as goal

pub loop-item-preserved : goal.loop-item-preserved
loop-item-preserved g c =
    put_more g.T.Spelled.spelling g.T.Spelled.is_within c.args.out.now.items c.args.items.now c.loop-item.out.items c.put.new.out.items c.loop-item.item-index c.item-item.result c.loop-item-test.true c.item-item.is c.loop-item.invariant c.in_ok-put.ensures.0 c.in_ok-put.ensures.1

pub returns : goal.returns
returns g c =
    let h = put_all g.T.Spelled.spelling g.T.Spelled.is_within c.args.out.now.items c.args.items.now c.loop-item.out.items c.loop-item.item-index c.loop-item-test.false c.loop-item.invariant in
    (h.written, h.within)
