use Rattle.std.proofs.Common.{refl, sym, subst}
use Rattle.transaction.specs.Items.{item_body_bytes}
use Rattle.transaction.specs.Grammar.{body_bytes, SpellsBody}
use Rattle.transaction.specs.UpdateGrammar.{update_body_bytes, SpellsUpdateBody}
use Rattle.transaction.specs.declared.item.Item.{Item}
use Rattle.drafts.specs.Encoding.{Encodes, IsBodyItem}
use Rattle.drafts.proofs.ItemLimits.{encodes}
use Rattle.drafts.proofs.item_encoding.encode_item_body.Goals as goal

pub returns-in-Tx : goal.returns-in-Tx
returns-in-Tx c =
    let one = c.in-Tx.tx in
    let r = c.encode_body.result in
    subst (λ (i : Item). IsBodyItem i → Encodes r (item_body_bytes i)) (sym c.in-Tx.is)
    (λ fits. encodes r (body_bytes one) (λ bytes. SpellsBody bytes one) c.encode_body.ensures.spelled c.encode_body.ensures.too_large (λ bytes s. (s.fields, s.short)) (λ short. record { fits = fits; fields = refl; short = short }))
    c.requires

pub returns-in-Update : goal.returns-in-Update
returns-in-Update c =
    let one = c.in-Update.update in
    let r = c.encode_update_body.result in
    subst (λ (i : Item). IsBodyItem i → Encodes r (item_body_bytes i)) (sym c.in-Update.is)
    (λ fits. encodes r (update_body_bytes one) (λ bytes. SpellsUpdateBody bytes one) c.encode_update_body.ensures.spelled c.encode_update_body.ensures.too_large (λ bytes s. (s.fields, s.short)) (λ short. record { fits = fits; fields = refl; short = short }))
    c.requires
