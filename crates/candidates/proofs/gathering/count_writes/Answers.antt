use Rattle.std.proofs.Common.{arith}
use Rattle.candidates.proofs.Counts.{count_more}
use Rattle.candidates.proofs.gathering.count_writes.Goals as goal

pub loop-set-preserved : goal.loop-set-preserved
loop-set-preserved c =
    let more = count_more c.args.sets.now c.loop-set.set-index c.set-item.result c.loop-set-test.true c.set-item.is in
    omega arith
