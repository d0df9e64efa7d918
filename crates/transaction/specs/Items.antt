-- What stands in one place of a block: a transaction, or in a block of version 2 an update of a definition, which begins with
-- the byte 0.
use Rattle.std.specs.Prelude.{ℕ, zero, suc, List, [], ◌∷◌, Option, option_map}
use Rattle.transaction.specs.declared.block_version.BlockVersion.{BlockVersion}
use Rattle.transaction.specs.declared.block_version.BlockVersion.TheVariants.{V1, V2}
use Rattle.transaction.specs.declared.identity.Identity.{Identity}
use Rattle.transaction.specs.declared.item.Item.{Item}
use Rattle.transaction.specs.declared.item.Item.TheVariants as item
use Rattle.transaction.specs.Grammar.{body_bytes, SpellsTx, SpellsSigned}
use Rattle.transaction.specs.UpdateGrammar.{update_body_bytes, SpellsUpdate, SpellsSignedUpdate}
use Rattle.transaction.specs.Spelled.{IsSpelled, IsSpelledUpdate}
use Rattle.transaction.specs.Decoded.{tx_of}
use Rattle.transaction.specs.UpdateReading.{whole_update_at}

-- ---- which bytes spell which item

abbrev pub SpellsItem : BlockVersion → List ℕ → Item → Type 0
SpellsItem version bytes (item.Tx tx) = SpellsTx bytes tx
SpellsItem V2 bytes (item.Update u) = SpellsUpdate bytes u
SpellsItem V1 bytes (item.Update u) = ⊥

-- the bytes before the creator's signature, which the creator signs
abbrev pub SpellsSignedItem : List ℕ → Item → Type 0
SpellsSignedItem bytes (item.Tx tx) = SpellsSigned bytes tx
SpellsSignedItem bytes (item.Update u) = SpellsSignedUpdate bytes u

-- some bytes spell the item
abbrev pub IsSpelledItem : Item → Type 0
IsSpelledItem (item.Tx tx) = IsSpelled tx
IsSpelledItem (item.Update u) = IsSpelledUpdate u

-- ---- what both kinds have

-- what an endorser signs, before its own identity
abbrev pub item_body_bytes : Item → List ℕ
item_body_bytes (item.Tx tx) = body_bytes tx
item_body_bytes (item.Update u) = update_body_bytes u

abbrev pub creator_of : Item → Identity
creator_of (item.Tx tx) = tx.creator
creator_of (item.Update u) = u.creator

-- ---- the item that bytes spell, as a function: the grammar's, as the law `item_reading` says

abbrev pub tx_item : List ℕ → Option Item
tx_item bytes = option_map item.Tx (tx_of bytes)

abbrev pub update_item : List ℕ → Option Item
update_item bytes = option_map item.Update (whole_update_at bytes)

-- in version 2 the first byte tells an update
abbrev pub marked_item : List ℕ → Option Item
marked_item [] = tx_item []
marked_item (zero ∷ rest) = update_item (zero ∷ rest)
marked_item (suc b ∷ rest) = tx_item (suc b ∷ rest)

-- the item, or none where the bytes spell none
abbrev pub item_of : BlockVersion → List ℕ → Option Item
item_of V1 bytes = tx_item bytes
item_of V2 bytes = marked_item bytes
