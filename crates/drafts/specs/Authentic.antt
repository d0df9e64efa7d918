-- What can be required of a transaction or an update by itself: that it is one of the channel, has the id of its nonce
-- and creator, and is signed as the key book accepts.
use Rattle.std.specs.Prelude.{◌≡◌, ℕ, List, ◌++◌, IsTrue}
use Rattle.std.specs.List.{AllByRecursion}
use Rattle.transaction.specs.Grammar.{identity_bytes, body_bytes, signed_bytes}
use Rattle.transaction.specs.UpdateGrammar.{update_body_bytes, update_signed_bytes}
use Rattle.transaction.specs.declared.block_version.BlockVersion.{BlockVersion}
use Rattle.transaction.specs.declared.item.Item as made
use Rattle.transaction.specs.declared.item.Item.TheVariants as item
use Rattle.transaction.specs.declared.transaction.Tx.{Tx}
use Rattle.transaction.specs.declared.update.Update.{Update}
use Rattle.header_hash.specs.Hashes.{tx_id_of}
use Rattle.key_book.specs.Entry.{Entry}
use Rattle.key_book.specs.Book.{accepts}
use Rattle.scripts.specs.declared.script.Item.{Item}
use Rattle.scripts.specs.declared.script.Item.TheVariants.{Raw, Drafted}
use Rattle.scripts.specs.Script.{script_of}
use Rattle.drafts.specs.DraftItem.{drafted_item}

pub record IsAuthentic (keys : List Entry) (channel : List ℕ) (tx : Tx) : Type 0 where
  pub is_for : tx.channel ≡ channel
  pub id : tx.id ≡ tx_id_of tx.nonce (identity_bytes tx.creator)
  -- over all that precedes it
  pub creator : IsTrue (accepts keys tx.creator (signed_bytes tx) tx.signature)
  -- over the body and the endorser's own bytes
  pub endorsers : AllByRecursion (λ e. IsTrue (accepts keys e.endorser (body_bytes tx ++ identity_bytes e.endorser) e.signature)) tx.endorsements

-- the same of an update
pub record IsAuthenticUpdate (keys : List Entry) (channel : List ℕ) (u : Update) : Type 0 where
  pub is_for : u.channel ≡ channel
  pub id : u.id ≡ tx_id_of u.nonce (identity_bytes u.creator)
  pub creator : IsTrue (accepts keys u.creator (update_signed_bytes u) u.signature)
  pub endorsers :
      AllByRecursion (λ e. IsTrue (accepts keys e.endorser (update_body_bytes u ++ identity_bytes e.endorser) e.signature)) u.endorsements

abbrev pub IsAuthenticMade : List Entry → List ℕ → made.Item → Type 0
IsAuthenticMade keys channel (item.Tx tx) = IsAuthentic keys channel tx
IsAuthenticMade keys channel (item.Update u) = IsAuthenticUpdate keys channel u

-- nothing is required of a raw one
abbrev pub IsAuthenticItem : List Entry → List ℕ → Item → Type 0
IsAuthenticItem keys channel (Raw bytes) = Unit {0}
IsAuthenticItem keys channel (Drafted draft) = IsAuthenticMade keys channel (drafted_item keys channel draft)

-- Each transaction and each update that a script drafts is authentic.
abbrev pub DraftsAreAuthentic : Type 0
DraftsAreAuthentic =
    (version : BlockVersion) (keys : List Entry) (channel text : List ℕ)
    → AllByRecursion (IsAuthenticItem keys channel) (script_of version keys text).items
