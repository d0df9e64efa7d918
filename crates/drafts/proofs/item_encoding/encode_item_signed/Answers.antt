use Rattle.std.proofs.Common.{refl, sym, subst}
use Rattle.transaction.specs.Grammar.{signed_bytes, SpellsSigned}
use Rattle.transaction.specs.UpdateGrammar.{update_signed_bytes, SpellsSignedUpdate}
use Rattle.transaction.specs.declared.item.Item.{Item}
use Rattle.drafts.specs.DraftItem.{item_signed_bytes}
use Rattle.drafts.specs.Encoding.{Encodes, IsSignedItem}
use Rattle.drafts.proofs.ItemLimits.{encodes}
use Rattle.drafts.proofs.item_encoding.encode_item_signed.Goals as goal

pub returns-in-Tx : goal.returns-in-Tx
returns-in-Tx c =
    let one = c.in-Tx.tx in
    let r = c.encode_signed.result in
    subst (λ (i : Item). IsSignedItem i → Encodes r (item_signed_bytes i)) (sym c.in-Tx.is)
    (λ fits. encodes r (signed_bytes one) (λ bytes. SpellsSigned bytes one) c.encode_signed.ensures.spelled c.encode_signed.ensures.too_large (λ bytes s. (s.fields, s.short)) (λ short. record { fits = fits; fields = refl; short = short }))
    c.requires

pub returns-in-Update : goal.returns-in-Update
returns-in-Update c =
    let one = c.in-Update.update in
    let r = c.encode_update_signed.result in
    subst (λ (i : Item). IsSignedItem i → Encodes r (item_signed_bytes i)) (sym c.in-Update.is)
    (λ fits. encodes r (update_signed_bytes one) (λ bytes. SpellsSignedUpdate bytes one) c.encode_update_signed.ensures.spelled c.encode_update_signed.ensures.too_large (λ bytes s. (s.fields, s.short)) (λ short. record { fits = fits; fields = refl; short = short }))
    c.requires
