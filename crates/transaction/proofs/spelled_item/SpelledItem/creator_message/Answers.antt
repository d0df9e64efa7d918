use Rattle.std.proofs.Common.{sym, subst, ◌∙◌}
use Rattle.transaction.specs.declared.block_version.BlockVersion.TheVariants.{V2}
use Rattle.transaction.specs.declared.item.Item.{Item}
use Rattle.transaction.specs.Grammar.{signed_bytes, SpellsTx}
use Rattle.transaction.specs.UpdateGrammar.{update_signed_bytes, SpellsUpdate}
use Rattle.transaction.specs.Items.{SpellsItem, SpellsSignedItem}
use Rattle.transaction.proofs.SignedPart.{signed_tx, signed_update}
use Rattle.transaction.proofs.spelled_item.SpelledItem.creator_message.Goals as goal

pub before_signature-requires : goal.before_signature-requires
before_signature-requires c =
    let s : SpellsTx c.self.inside.bytes.now c.in-Tx.tx = subst (λ (i : Item). SpellsItem V2 c.self.inside.bytes.now i) c.in-Tx.is c.self.invariant in
    record { front = signed_bytes c.in-Tx.tx; parts = s.fields }

pub before_signature-requires-in-Update : goal.before_signature-requires-in-Update
before_signature-requires-in-Update c =
    let s : SpellsUpdate c.self.inside.bytes.now c.in-Update.update = subst (λ (i : Item). SpellsItem V2 c.self.inside.bytes.now i) c.in-Update.is c.self.invariant in
    record { front = update_signed_bytes c.in-Update.update; parts = s.fields }

pub returns-in-Tx : goal.returns-in-Tx
returns-in-Tx c =
    let tx = c.in-Tx.tx in
    let part = c.before_signature.result.now in
    let s : SpellsTx c.self.inside.bytes.now tx = subst (λ (i : Item). SpellsItem V2 c.self.inside.bytes.now i) c.in-Tx.is c.self.invariant in
    subst (λ (i : Item). SpellsSignedItem part i) (sym c.in-Tx.is ∙ c.self.view_is) (signed_tx tx c.self.inside.bytes.now part s (c.before_signature.ensures (signed_bytes tx) s.fields))

pub returns-in-Update : goal.returns-in-Update
returns-in-Update c =
    let update = c.in-Update.update in
    let part = c.before_signature-in-Update.result.now in
    let s : SpellsUpdate c.self.inside.bytes.now update = subst (λ (i : Item). SpellsItem V2 c.self.inside.bytes.now i) c.in-Update.is c.self.invariant in
    subst (λ (i : Item). SpellsSignedItem part i) (sym c.in-Update.is ∙ c.self.view_is) (signed_update update c.self.inside.bytes.now part s (c.before_signature-in-Update.ensures (update_signed_bytes update) s.fields))
