use Rattle.std.proofs.Common.{◌∙◌, arith}
use Rattle.ledger.proofs.Steps.{Chain-more}
use Rattle.ledger.proofs.ledger.Ledger.submit_all.Goals as goal

pub loop-bytes-preserved : goal.loop-bytes-preserved
loop-bytes-preserved g c =
    let before = c.loop-bytes.invariant in
    record {
      chain = Chain-more c.args.self.now.channel c.loop-bytes.self.channel (g.V.Verify.accepts c.args.verifier.now) c.args.self.now.world c.loop-bytes.self.world c.submit_one.new.self.world c.args.blocks.now
          c.loop-bytes.bytes-index c.as_slice.result.now c.bytes-item.result c.loop-bytes.answers.items c.push_reserved.new.self.items c.submit_one.result
          c.loop-bytes-test.true c.bytes-item.is c.as_slice.ensures before.channel before.chain c.submit_one.ensures.step c.push_reserved.ensures.items;
      channel = c.submit_one.ensures.channel ∙ before.channel;
      count = omega (arith, before.count, c.push_reserved.ensures.len);
      room = omega (arith, before.room, c.push_reserved.ensures.capacity);
    }
