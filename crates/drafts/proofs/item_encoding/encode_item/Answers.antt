use Rattle.std.proofs.Common.{refl, sym, subst}
use Rattle.transaction.specs.Grammar.{whole_bytes, SpellsTx}
use Rattle.transaction.specs.UpdateGrammar.{update_whole_bytes, SpellsUpdate}
use Rattle.transaction.specs.declared.item.Item.{Item}
use Rattle.drafts.specs.DraftItem.{item_whole_bytes}
use Rattle.drafts.specs.Encoding.{Encodes, IsWholeItem}
use Rattle.drafts.proofs.ItemLimits.{encodes}
use Rattle.drafts.proofs.item_encoding.encode_item.Goals as goal

pub returns-in-Tx-clause-encodes : goal.returns-in-Tx-clause-encodes
returns-in-Tx-clause-encodes c =
    let one = c.in-Tx.tx in
    let r = c.encode_tx.result in
    subst (λ (i : Item). IsWholeItem i → Encodes r (item_whole_bytes i)) (sym c.in-Tx.is)
    (λ fits. encodes r (whole_bytes one) (λ bytes. SpellsTx bytes one) c.encode_tx.ensures.spelled c.encode_tx.ensures.too_large (λ bytes s. (s.fields, s.short)) (λ short. record { fits = fits; fields = refl; short = short }))
    c.requires

pub returns-in-Update-clause-encodes : goal.returns-in-Update-clause-encodes
returns-in-Update-clause-encodes c =
    let one = c.in-Update.update in
    let r = c.encode_update.result in
    subst (λ (i : Item). IsWholeItem i → Encodes r (item_whole_bytes i)) (sym c.in-Update.is)
    (λ fits. encodes r (update_whole_bytes one) (λ bytes. SpellsUpdate bytes one) c.encode_update.ensures.spelled c.encode_update.ensures.too_large (λ bytes s. (s.fields, s.short)) (λ short. record { fits = fits; fields = refl; short = short }))
    c.requires
