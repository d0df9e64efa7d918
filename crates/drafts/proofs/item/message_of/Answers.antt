use Rattle.std.proofs.Common.{[], sym, subst}
use Rattle.transaction.specs.declared.item.Item.{Item}
use Rattle.drafts.specs.DraftItem.{item_signed_bytes}
use Rattle.drafts.specs.Encoding.{Encodes, IsSignedItem}
use Rattle.drafts.proofs.ItemLimits.{same_signatures, is_signed}
use Rattle.drafts.proofs.item.message_of.Goals as goal

pub encode_item_signed-requires : goal.encode_item_signed-requires
encode_item_signed-requires c =
    let channel = c.args.channel.now in
    let draft = c.args.draft.now in
    let is = same_signatures channel draft c.in_ok-item.item c.in_ok-endorsements.endorsements c.args.endorsements.now c.new.result [] c.in_ok-item.ensures.value c.in_ok-endorsements.ensures c.new.ensures in
    subst IsSignedItem (sym is) (is_signed channel draft c.args.endorsements.now [] c.in_ok-item.ensures.named c.requires.draft c.requires.endorsements)

pub returns : goal.returns
returns c =
    let channel = c.args.channel.now in
    let draft = c.args.draft.now in
    let is = same_signatures channel draft c.in_ok-item.item c.in_ok-endorsements.endorsements c.args.endorsements.now c.new.result [] c.in_ok-item.ensures.value c.in_ok-endorsements.ensures c.new.ensures in
    subst (λ (i : Item). Encodes c.encode_item_signed.result (item_signed_bytes i)) is c.encode_item_signed.ensures
