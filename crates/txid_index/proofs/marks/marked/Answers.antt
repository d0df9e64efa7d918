use Rattle.std.proofs.Common.{None}
use Rattle.txid_index.proofs.Marking.{mark_more}
use Rattle.txid_index.proofs.marks.marked.Goals as goal

pub loop-id-preserved : goal.loop-id-preserved
loop-id-preserved c =
    mark_more c.args.before.now.uses c.args.ids.now c.loop-id.id-index None c.loop-id.used.items c.push.new.self.items c.loop-id.earlier.keys c.mark.new.earlier.keys c.in_ok-is_used.is_used
    c.loop-id-test.true c.in_ok-is_used.ensures.used c.in_ok-is_used.ensures.earlier c.in_ok-push.ensures.items c.loop-id.invariant
