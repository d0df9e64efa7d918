-- The book accepts what it signs.
use Rattle.std.proofs.Common.{◌≡◌, ℕ, List, [], ◌∷◌, ◌++◌, map, true, false, Option, Some, None, refl}
use Rattle.std.specs.Prelude.{IsTrue, is_some, option_map, unwrap_or}
use Rattle.std.specs.List.{AllByRecursion}
use Rattle.std.specs.Option.{option_map_or}
use Rattle.std.specs.Str.{bytes_eq}
use Rattle.std.proofs.lemmas.Slice.Eq.{bytes_eq-Decides}
use Rattle.transaction.specs.Grammar.{identity_bytes}
use Rattle.transaction.specs.Items.{item_body_bytes}
use Rattle.transaction.specs.declared.block_version.BlockVersion.{BlockVersion}
use Rattle.transaction.specs.declared.identity.Identity.{Identity}
use Rattle.key_book.specs.Entry.{Entry}
use Rattle.key_book.specs.Book.{key_in_book, accepts}
use Rattle.key_book.specs.Hmac.{hmac}
use Rattle.scripts.specs.declared.draft.Content.{Content}
use Rattle.scripts.specs.declared.draft.Content.TheVariants as content
use Rattle.scripts.specs.declared.script.Item.{Item}
use Rattle.scripts.specs.declared.script.Item.TheVariants.{Raw, Drafted}
use Rattle.scripts.specs.Draft.{Draft}
use Rattle.scripts.specs.Script.{can_sign, script_of}
use Rattle.scripts.specs.Within.{IsDraft, IsItem}
use Rattle.scripts.proofs.ScriptLimits.{script_within}
use Rattle.drafts.specs.DraftItem.{item_signed_bytes, with_content, signed_by, endorsement_by, drafted_item}
use Rattle.drafts.specs.Authentic.{IsAuthenticMade, IsAuthenticItem, DraftsAreAuthentic}

same_bytes : (bytes : List ℕ) → bytes_eq bytes bytes ≡ true
same_bytes bytes = (bytes_eq-Decides bytes bytes).1 refl

accepted_with : (key : Option (List ℕ)) (message : List ℕ) → is_some key ≡ true
    → option_map_or (λ signed. bytes_eq signed (unwrap_or (option_map (λ k. hmac k message) key) [])) (option_map (λ k. hmac k message) key) false ≡ true
accepted_with None message some = cc
accepted_with (Some key) message some = same_bytes (hmac key message)

accepted : (keys : List Entry) (identity : Identity) (message : List ℕ) → IsTrue (can_sign keys identity) → IsTrue (accepts keys identity message (signed_by keys identity message))
accepted keys identity message signs = accepted_with (key_in_book identity keys) message signs

endorsers_accepted : (keys : List Entry) (body : List ℕ) (endorsers : List Identity) → AllByRecursion (λ e. IsTrue (can_sign keys e)) endorsers
    → AllByRecursion (λ e. IsTrue (accepts keys e.endorser (body ++ identity_bytes e.endorser) e.signature)) (map (endorsement_by keys body) endorsers)
endorsers_accepted keys body [] all = tt
endorsers_accepted keys body (e ∷ more) all = (accepted keys e (body ++ identity_bytes e) all.0, endorsers_accepted keys body more all.1)

-- by what the draft has
authentic_with : (version : BlockVersion) (keys : List Entry) (channel : List ℕ) (draft : Draft) (asked : Content) → IsDraft version keys draft
    → let body = item_body_bytes (with_content channel draft [] [] asked) in
    let endorsements = map (endorsement_by keys body) draft.endorsers in
    let message = item_signed_bytes (with_content channel draft endorsements [] asked) in
    IsAuthenticMade keys channel (with_content channel draft endorsements (signed_by keys draft.creator message) asked)
authentic_with version keys channel draft (content.Tx namespaces) d =
    let unsigned = with_content channel draft [] [] (content.Tx namespaces) in
    let endorsements = map (endorsement_by keys (item_body_bytes unsigned)) draft.endorsers in
    record {
      is_for = refl;
      id = refl;
      creator = accepted keys draft.creator (item_signed_bytes (with_content channel draft endorsements [] (content.Tx namespaces))) d.creator_signs;
      endorsers = endorsers_accepted keys (item_body_bytes unsigned) draft.endorsers d.endorsers_sign;
    }
authentic_with version keys channel draft (content.Update policy) d =
    let unsigned = with_content channel draft [] [] (content.Update policy) in
    let endorsements = map (endorsement_by keys (item_body_bytes unsigned)) draft.endorsers in
    record {
      is_for = refl;
      id = refl;
      creator = accepted keys draft.creator (item_signed_bytes (with_content channel draft endorsements [] (content.Update policy))) d.creator_signs;
      endorsers = endorsers_accepted keys (item_body_bytes unsigned) draft.endorsers d.endorsers_sign;
    }

authentic : (version : BlockVersion) (keys : List Entry) (channel : List ℕ) (draft : Draft) → IsDraft version keys draft → IsAuthenticMade keys channel (drafted_item keys channel draft)
authentic version keys channel draft d = authentic_with version keys channel draft draft.content d

items_authentic : (version : BlockVersion) (keys : List Entry) (channel : List ℕ) (items : List Item) → AllByRecursion (IsItem version keys) items → AllByRecursion (IsAuthenticItem keys channel) items
items_authentic version keys channel [] all = tt
items_authentic version keys channel (Raw bytes ∷ more) all = (tt, items_authentic version keys channel more all.1)
items_authentic version keys channel (Drafted draft ∷ more) all = (authentic version keys channel draft all.0, items_authentic version keys channel more all.1)

pub drafts_authentic : DraftsAreAuthentic
drafts_authentic version keys channel text = items_authentic version keys channel (script_of version keys text).items (script_within version keys text).each
