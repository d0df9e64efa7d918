use Rattle.std.proofs.Common.{sym, subst}
use Rattle.std.specs.Prelude.{IfOk}
use Rattle.transaction.specs.Items.{SpellsItem}
use Rattle.transaction.specs.declared.block_version.BlockVersion.TheVariants.{V2}
use Rattle.transaction.specs.declared.item.Item.{Item}
use Rattle.drafts.specs.DraftItem.{item_whole_bytes}
use Rattle.drafts.specs.Encoding.{Encodes, IsWholeItem}
use Rattle.drafts.proofs.ItemLimits.{same_signatures, is_whole}
use Rattle.drafts.proofs.item.whole_of.Goals as goal

pub encode_item-requires : goal.encode_item-requires
encode_item-requires c =
    let channel = c.args.channel.now in
    let draft = c.args.draft.now in
    let is = same_signatures channel draft c.in_ok-item.item c.in_ok-endorsements.endorsements c.args.endorsements.now c.lend.result c.args.signature.now c.in_ok-item.ensures.value c.in_ok-endorsements.ensures c.lend.ensures in
    subst IsWholeItem (sym is) (is_whole channel draft c.args.endorsements.now c.args.signature.now c.in_ok-item.ensures.named c.requires.draft c.requires.endorsements c.requires.signature)

pub returns-clause-encodes : goal.returns-clause-encodes
returns-clause-encodes c =
    let channel = c.args.channel.now in
    let draft = c.args.draft.now in
    let is = same_signatures channel draft c.in_ok-item.item c.in_ok-endorsements.endorsements c.args.endorsements.now c.lend.result c.args.signature.now c.in_ok-item.ensures.value c.in_ok-endorsements.ensures c.lend.ensures in
    subst (λ (i : Item). Encodes c.encode_item.result (item_whole_bytes i)) is c.encode_item.ensures.encodes

pub returns-clause-spelled : goal.returns-clause-spelled
returns-clause-spelled c =
    let channel = c.args.channel.now in
    let draft = c.args.draft.now in
    let is = same_signatures channel draft c.in_ok-item.item c.in_ok-endorsements.endorsements c.args.endorsements.now c.lend.result c.args.signature.now c.in_ok-item.ensures.value c.in_ok-endorsements.ensures c.lend.ensures in
    subst (λ (i : Item). IfOk c.encode_item.result (λ bytes. SpellsItem V2 bytes i)) is c.encode_item.ensures.spelled
