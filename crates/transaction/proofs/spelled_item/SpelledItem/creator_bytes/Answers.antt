use Rattle.std.proofs.Common.{ℕ, ◌+◌, ap, subst}
use Rattle.transaction.specs.declared.block_version.BlockVersion.TheVariants.{V2}
use Rattle.transaction.specs.declared.item.Item.{Item}
use Rattle.transaction.specs.Items.{SpellsItem}
use Rattle.transaction.proofs.SignedPart.{creator_of_tx, creator_of_update}
use Rattle.transaction.proofs.spelled_item.SpelledItem.creator_bytes.Goals as goal

pub identity_behind-requires : goal.identity_behind-requires
identity_behind-requires c =
    let bytes = c.self.inside.bytes.now in
    creator_of_tx c.in-Tx.tx bytes (1 + c.len.result + 64) (subst (λ (i : Item). SpellsItem V2 bytes i) c.in-Tx.is c.self.invariant) (ap (λ (n : ℕ). 1 + n + 64) c.len.ensures.value)

pub identity_behind-requires-in-Update : goal.identity_behind-requires-in-Update
identity_behind-requires-in-Update c =
    let bytes = c.self.inside.bytes.now in
    creator_of_update c.in-Update.update bytes (2 + c.len-in-Update.result + 64) (subst (λ (i : Item). SpellsItem V2 bytes i) c.in-Update.is c.self.invariant) (ap (λ (n : ℕ). 2 + n + 64) c.len-in-Update.ensures.value)
