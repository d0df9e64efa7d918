use Rattle.std.proofs.Common.{◌≡◌, drop, take}
use Rattle.std.specs.List.{AllByRecursion}
use Rattle.transaction.specs.declared.block_version.BlockVersion.TheVariants.{V2}
use Rattle.scripts.specs.Within.{IsItem}
use Rattle.drafts.specs.Drafted.{MakesAll}
use Rattle.drafts.specs.DraftBlock.{items_bytes}
use Rattle.drafts.proofs.Items.{behind}
use Rattle.drafts.proofs.drafting.items_bytes.Given as goal

abbrev pub invariant-loop-item : goal.invariant-loop-item
invariant-loop-item l = record {
  bytes : behind l.txs.items (items_bytes l.keys l.channel (drop l.item-index l.items)) ≡ items_bytes l.keys l.channel l.items;
  makes : MakesAll V2 l.keys l.channel (take l.item-index l.items) l.txs.items;
  left : AllByRecursion (IsItem V2 l.keys) (drop l.item-index l.items);
}
