use Rattle.std.proofs.Common.{[], sym, subst}
use Rattle.transaction.specs.Items.{item_body_bytes}
use Rattle.transaction.specs.declared.item.Item.{Item}
use Rattle.drafts.specs.Encoding.{Encodes, IsBodyItem}
use Rattle.drafts.proofs.ItemLimits.{same_signatures, is_body}
use Rattle.drafts.proofs.item.body_of.Goals as goal

pub encode_item_body-requires : goal.encode_item_body-requires
encode_item_body-requires c =
    let channel = c.args.channel.now in
    let draft = c.args.draft.now in
    let is = same_signatures channel draft c.in_ok-item.item c.new.result [] c.new-2.result [] c.in_ok-item.ensures.value c.new.ensures c.new-2.ensures in
    subst IsBodyItem (sym is) (is_body channel draft [] [] c.in_ok-item.ensures.named c.requires)

pub returns : goal.returns
returns c =
    let channel = c.args.channel.now in
    let draft = c.args.draft.now in
    let is = same_signatures channel draft c.in_ok-item.item c.new.result [] c.new-2.result [] c.in_ok-item.ensures.value c.new.ensures c.new-2.ensures in
    subst (λ (i : Item). Encodes c.encode_item_body.result (item_body_bytes i)) is c.encode_item_body.ensures
