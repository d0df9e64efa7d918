use Rattle.std.proofs.Common.{arith}
use Rattle.std.proofs.lemmas.Grind.{common_steps}
use Rattle.transaction.specs.declared.block_version.BlockVersion.TheVariants.{V2}
use Rattle.drafts.proofs.Items.{makes_next, left_next}
use Rattle.drafts.proofs.drafting.items_bytes.Goals as goal

pub loop-item-preserved : goal.loop-item-preserved
loop-item-preserved c = record {
  bytes = grind (arith, common_steps);
  makes =
      makes_next V2 c.args.keys.now c.args.channel.now c.args.items.now c.loop-item.item-index c.loop-item.txs.items c.push.new.self.items c.item-item.result c.in_ok-item_bytes.field-0
      c.loop-item-test.true c.item-item.is c.loop-item.invariant.makes c.in_ok-item_bytes.ensures.makes c.in_ok-push.ensures.items;
  left = left_next V2 c.args.keys.now c.args.items.now c.loop-item.item-index c.item-item.result c.loop-item-test.true c.loop-item.invariant.left;
}
