-- The transaction or update that a draft makes on a channel, if the keys of those who sign are in a book.
use Rattle.std.specs.Prelude.{ℕ, nat_lt, Bool, List, [], ◌++◌, length, map, unwrap_or}
use Rattle.transaction.specs.Grammar.{identity_bytes, signed_bytes, whole_bytes}
use Rattle.transaction.specs.UpdateGrammar.{update_signed_bytes, update_whole_bytes}
use Rattle.transaction.specs.Items.{item_body_bytes}
use Rattle.transaction.specs.Limits.{max_tx_bytes}
use Rattle.transaction.specs.declared.identity.Identity.{Identity}
use Rattle.transaction.specs.declared.item.Item.{Item}
use Rattle.transaction.specs.declared.item.Item.TheVariants as item
use Rattle.transaction.specs.declared.transaction.Endorsement.{Endorsement}
use Rattle.header_hash.specs.Hashes.{tx_id_of}
use Rattle.key_book.specs.Entry.{Entry}
use Rattle.key_book.specs.Book.{signature_of}
use Rattle.scripts.specs.declared.draft.Content.{Content}
use Rattle.scripts.specs.declared.draft.Content.TheVariants as content
use Rattle.scripts.specs.Draft.{Draft}

-- ---- bytes of both kinds

-- what the creator signs
abbrev pub item_signed_bytes : Item → List ℕ
item_signed_bytes (item.Tx tx) = signed_bytes tx
item_signed_bytes (item.Update u) = update_signed_bytes u

abbrev pub item_whole_bytes : Item → List ℕ
item_whole_bytes (item.Tx tx) = whole_bytes tx
item_whole_bytes (item.Update u) = update_whole_bytes u

-- ---- what a draft makes

-- with this content and these signatures; the id is that of nonce and creator
abbrev pub with_content : List ℕ → Draft → List Endorsement → List ℕ → Content → Item
with_content channel draft endorsements signature (content.Tx namespaces) =
    item.Tx (record {
      channel = channel;
      id = tx_id_of draft.nonce (identity_bytes draft.creator);
      creator = draft.creator;
      nonce = draft.nonce;
      chaincode = draft.chaincode;
      namespaces = namespaces;
      endorsements = endorsements;
      signature = signature;
    })
with_content channel draft endorsements signature (content.Update policy) =
    item.Update (record {
      channel = channel;
      id = tx_id_of draft.nonce (identity_bytes draft.creator);
      creator = draft.creator;
      nonce = draft.nonce;
      namespace = draft.chaincode;
      policy = policy;
      endorsements = endorsements;
      signature = signature;
    })

abbrev pub with_signatures : List ℕ → Draft → List Endorsement → List ℕ → Item
with_signatures channel draft endorsements signature = with_content channel draft endorsements signature draft.content

-- before anyone signs
abbrev pub unsigned : List ℕ → Draft → Item
unsigned channel draft = with_signatures channel draft [] []

-- the signature over a message; a script has no signer outside the book, who would have no bytes
abbrev pub signed_by : List Entry → Identity → List ℕ → List ℕ
signed_by keys identity message = unwrap_or (signature_of keys identity message) []

-- an endorser signs the body followed by its own identity's bytes
abbrev pub endorsement_by : List Entry → List ℕ → Identity → Endorsement
endorsement_by keys body endorser = record { endorser = endorser; signature = signed_by keys endorser (body ++ identity_bytes endorser) }

-- in the order of the script
abbrev pub endorsements_of : List Entry → List ℕ → Draft → List Endorsement
endorsements_of keys channel draft = map (endorsement_by keys (item_body_bytes (unsigned channel draft))) draft.endorsers

abbrev pub endorsed : List Entry → List ℕ → Draft → Item
endorsed keys channel draft = with_signatures channel draft (endorsements_of keys channel draft) []

-- The creator signs the body and the endorsements.
abbrev pub drafted_item : List Entry → List ℕ → Draft → Item
drafted_item keys channel draft =
    with_signatures channel draft (endorsements_of keys channel draft)
    (signed_by keys draft.creator (item_signed_bytes (endorsed keys channel draft)))

-- its bytes are more than a transaction has; its body and its signed part, which begin them, are never longer
abbrev pub is_too_long : Item → Bool
is_too_long made = nat_lt max_tx_bytes (length (item_whole_bytes made))
