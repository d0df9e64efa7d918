-- What of a script is within the limits that transactions have, and signed by those who can.
use Rattle.std.specs.Prelude.{◌^◌, ◌<◌, ◌≤◌, List, length, IsTrue}
use Rattle.std.specs.List.{AllByRecursion}
use Rattle.values.specs.Name.{is_name}
use Rattle.transaction.specs.Grammar.{IsIdentity, IsNsSet, AreItems}
use Rattle.transaction.specs.Limits.{max_tx_bytes, max_endorsements}
use Rattle.transaction.specs.declared.block_version.BlockVersion.{BlockVersion}
use Rattle.transaction.specs.declared.block_version.BlockVersion.TheVariants.{V1, V2}
use Rattle.block.specs.Limits.{max_txs}
use Rattle.scripts.specs.declared.draft.Content.{Content}
use Rattle.scripts.specs.declared.draft.Content.TheVariants as content
use Rattle.scripts.specs.declared.script.Item.{Item}
use Rattle.scripts.specs.declared.script.Item.TheVariants.{Raw, Drafted}
use Rattle.key_book.specs.Entry.{Entry}
use Rattle.scripts.specs.Draft.{Draft}
use Rattle.scripts.specs.Script.{can_sign}

-- a transaction's namespaces, or the text of an update's policy
abbrev pub IsContent : Content → Type 0
IsContent (content.Tx namespaces) = AreItems IsNsSet namespaces
IsContent (content.Update policy) = length policy < 2 ^ 16

-- a block of version 1 has transactions alone
abbrev pub IsOf : BlockVersion → Content → Type 0
IsOf version (content.Tx namespaces) = Unit {0}
IsOf V2 (content.Update policy) = Unit {0}
IsOf V1 (content.Update policy) = ⊥

-- all that is said of a transaction or an update, each part by itself
pub record IsWithin (draft : Draft) : Type 0 where
  pub creator : IsIdentity draft.creator
  pub nonce : length draft.nonce < 2 ^ 8
  pub chaincode : IsTrue (is_name draft.chaincode)
  pub content : IsContent draft.content
  pub count : length draft.endorsers ≤ max_endorsements
  pub endorsers : AllByRecursion IsIdentity draft.endorsers

-- besides, a block of this version can have it, and all who sign it are in the book
pub record IsDraft (version : BlockVersion) (keys : List Entry) (draft : Draft) : Type 0 where
  pub limits : IsWithin draft
  pub kind : IsOf version draft.content
  pub creator_signs : IsTrue (can_sign keys draft.creator)
  pub endorsers_sign : AllByRecursion (λ endorser. IsTrue (can_sign keys endorser)) draft.endorsers

-- a raw transaction, which has the bytes that are said, isn't too long
abbrev pub IsItem : BlockVersion → List Entry → Item → Type 0
IsItem version keys (Raw bytes) = length bytes ≤ max_tx_bytes
IsItem version keys (Drafted draft) = IsDraft version keys draft

-- no more than a block has
pub record AreDrafted (version : BlockVersion) (keys : List Entry) (items : List Item) : Type 0 where
  pub count : length items ≤ max_txs
  pub each : AllByRecursion (IsItem version keys) items
