use Rattle.std.proofs.Common.{◌++◌, List, sym, ap, subst, ◌∙◌}
use Rattle.transaction.specs.declared.item.Item.{Item}
use Rattle.transaction.specs.declared.transaction.Endorsement.{Endorsement}
use Rattle.transaction.specs.Grammar.{listed, endorsement_bytes, body_bytes, SpellsSigned}
use Rattle.transaction.specs.UpdateGrammar.{update_body_bytes, SpellsSignedUpdate}
use Rattle.transaction.specs.Items.{SpellsSignedItem, item_body_bytes}
use Rattle.transaction.proofs.SignedPart.{ends_in}
use Rattle.transaction.proofs.spelled_item.SpelledItem.body.Goals as goal

pub before_endorsements-requires-clause-ending : goal.before_endorsements-requires-clause-ending
before_endorsements-requires-clause-ending c =
    let tx = c.in-Tx.tx in
    let signed = c.creator_message-signed.result.now in
    let s : SpellsSigned signed tx = subst (λ (i : Item). SpellsSignedItem signed i) (sym c.self.view_is ∙ c.in-Tx.is) c.creator_message-signed.ensures in
    ends_in (body_bytes tx) signed tx.endorsements c.as_slice.result.now s.fields c.as_slice.ensures

pub before_endorsements-requires-in-Update-clause-ending : goal.before_endorsements-requires-in-Update-clause-ending
before_endorsements-requires-in-Update-clause-ending c =
    let update = c.in-Update.update in
    let signed = c.creator_message-signed.result.now in
    let s : SpellsSignedUpdate signed update = subst (λ (i : Item). SpellsSignedItem signed i) (sym c.self.view_is ∙ c.in-Update.is) c.creator_message-signed.ensures in
    ends_in (update_body_bytes update) signed update.endorsements c.as_slice-in-Update.result.now s.fields c.as_slice-in-Update.ensures

pub returns-in-Tx : goal.returns-in-Tx
returns-in-Tx c =
    let tx = c.in-Tx.tx in
    let signed = c.creator_message-signed.result.now in
    let s : SpellsSigned signed tx = subst (λ (i : Item). SpellsSignedItem signed i) (sym c.self.view_is ∙ c.in-Tx.is) c.creator_message-signed.ensures in
    c.before_endorsements.ensures (body_bytes tx) (s.fields ∙ ap (λ (es : List Endorsement). body_bytes tx ++ listed 1 endorsement_bytes es) (sym c.as_slice.ensures))
    ∙ ap item_body_bytes (sym c.in-Tx.is ∙ c.self.view_is)

pub returns-in-Update : goal.returns-in-Update
returns-in-Update c =
    let update = c.in-Update.update in
    let signed = c.creator_message-signed.result.now in
    let s : SpellsSignedUpdate signed update = subst (λ (i : Item). SpellsSignedItem signed i) (sym c.self.view_is ∙ c.in-Update.is) c.creator_message-signed.ensures in
    c.before_endorsements-in-Update.ensures (update_body_bytes update)
    (s.fields ∙ ap (λ (es : List Endorsement). update_body_bytes update ++ listed 1 endorsement_bytes es) (sym c.as_slice-in-Update.ensures))
    ∙ ap item_body_bytes (sym c.in-Update.is ∙ c.self.view_is)
