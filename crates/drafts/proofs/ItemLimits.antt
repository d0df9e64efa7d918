-- The limits of what a draft makes, and what its parts encode to.
use Rattle.std.proofs.Common.{◌≡◌, ℕ, ◌*◌, ◌<◌, ◌≤◌, ◌^◌, suc, inl, inr, List, [], ◌∷◌, ◌++◌, length, map, Option, Some, None, Result, Ok, Err, ap, refl, sym, ◌∙◌, subst, arith, length-append}
use Rattle.std.proofs.lemmas.Bool.{cases_lt}
use Rattle.std.specs.Prelude.{IsTrue, IfOk, option_map, unwrap_or}
use Rattle.std.specs.List.{AllByRecursion}
use Rattle.sha2.specs.Sha256.{sha256}
use Rattle.sha2.proofs.Facts256.{length-sha256}
use Rattle.hex.specs.Hex.{encode_with, lower_digits}
use Rattle.values.specs.Name.{is_name}
use Rattle.transaction.specs.Grammar.{counted, identity_bytes, IsIdentity, IsEndorsement, AreEndorsements}
use Rattle.transaction.specs.Items.{item_body_bytes}
use Rattle.transaction.specs.Limits.{max_tx_bytes}
use Rattle.transaction.specs.declared.fault.EncodeFault.{EncodeFault}
use Rattle.transaction.specs.declared.fault.EncodeFault.TheVariants.{TooLarge, Memory}
use Rattle.transaction.specs.declared.identity.Identity.{Identity}
use Rattle.transaction.specs.declared.transaction.Endorsement.{Endorsement}
use Rattle.transaction.specs.declared.item.Item.{Item}
use Rattle.header_hash.specs.Hashes.{tx_id_of}
use Rattle.key_book.specs.Entry.{Entry}
use Rattle.key_book.specs.Book.{key_in_book}
use Rattle.key_book.specs.Hmac.{hmac, key_xor, ipad, opad}
use Rattle.scripts.specs.declared.draft.Content.{Content}
use Rattle.scripts.specs.declared.draft.Content.TheVariants as content
use Rattle.scripts.specs.Draft.{Draft}
use Rattle.scripts.specs.Within.{IsContent, IsWithin}
use Rattle.drafts.specs.DraftItem.{item_signed_bytes, item_whole_bytes, with_content, with_signatures, unsigned, signed_by, endorsement_by, endorsements_of, endorsed, drafted_item}
use Rattle.drafts.specs.Encoding.{Encodes, IsBodyItem, IsSignedItem, IsWholeItem}

-- ---- signatures and ids

length-encode_with : (digits bytes : List ℕ) → length (encode_with digits bytes) ≡ 2 * length bytes
unfolding encode_with
length-encode_with digits [] = refl
length-encode_with digits (b ∷ more) = omega (arith, length-encode_with digits more)

length-tx_id_of : (nonce creator : List ℕ) → length (tx_id_of nonce creator) ≡ 64
length-tx_id_of nonce creator = length-encode_with lower_digits (sha256 (nonce ++ creator)) ∙ ap (λ (n : ℕ). 2 * n) (length-sha256 (nonce ++ creator))

signed_short : (key : Option (List ℕ)) (message : List ℕ) → length (unwrap_or (option_map (λ k. hmac k message) key) []) < 2 ^ 16
signed_short None message = omega arith
signed_short (Some key) message = omega (arith, length-sha256 (key_xor key opad ++ sha256 (key_xor key ipad ++ message)))

pub signature_short : (keys : List Entry) (identity : Identity) (message : List ℕ) → length (signed_by keys identity message) < 2 ^ 16
signature_short keys identity message = signed_short (key_in_book identity keys) message

endorsements_each : (keys : List Entry) (body : List ℕ) (endorsers : List Identity) → AllByRecursion IsIdentity endorsers → AllByRecursion IsEndorsement (map (endorsement_by keys body) endorsers)
endorsements_each keys body [] all = tt
endorsements_each keys body (e ∷ more) all =
    (record { endorser = all.0; signature = signature_short keys e (body ++ identity_bytes e) }, endorsements_each keys body more all.1)

length-map : {A B : Type 0} (f : A → B) (xs : List A) → length (map f xs) ≡ length xs
length-map f [] = refl
length-map f (x ∷ more) = ap suc (length-map f more)

pub are_endorsements : (keys : List Entry) (body : List ℕ) (draft : Draft) → IsWithin draft → AreEndorsements (map (endorsement_by keys body) draft.endorsers)
are_endorsements keys body draft d =
    record { count = omega (arith, d.count, length-map (endorsement_by keys body) draft.endorsers); each = endorsements_each keys body draft.endorsers d.endorsers }

-- ---- what a draft makes

-- what the signatures are named
pub same_signatures : (channel : List ℕ) (draft : Draft) (item : Item) (es others : List Endorsement) (s other : List ℕ) → item ≡ with_signatures channel draft es s → es ≡ others → s ≡ other
    → item ≡ with_signatures channel draft others other
same_signatures channel draft item es others s other is same same_s =
    is ∙ ap (λ (e : List Endorsement). with_signatures channel draft e s) same ∙ ap (with_signatures channel draft others) same_s

body_with : (channel : List ℕ) (draft : Draft) (es : List Endorsement) (s : List ℕ) (asked : Content) → IsTrue (is_name channel) → IsWithin draft → IsContent asked → IsBodyItem (with_content channel draft es s asked)
body_with channel draft es s (content.Tx namespaces) n d fits =
    record { channel = n; id = length-tx_id_of draft.nonce (identity_bytes draft.creator); creator = d.creator; nonce = d.nonce; chaincode = d.chaincode; namespaces = fits }
body_with channel draft es s (content.Update policy) n d fits =
    record { channel = n; id = length-tx_id_of draft.nonce (identity_bytes draft.creator); creator = d.creator; nonce = d.nonce; namespace = d.chaincode; policy = fits }

signed_with : (channel : List ℕ) (draft : Draft) (es : List Endorsement) (s : List ℕ) (asked : Content) → IsBodyItem (with_content channel draft es s asked) → AreEndorsements es → IsSignedItem (with_content channel draft es s asked)
signed_with channel draft es s (content.Tx namespaces) body e = record { body = body; endorsements = e }
signed_with channel draft es s (content.Update policy) body e = record { body = body; endorsements = e }

whole_with : (channel : List ℕ) (draft : Draft) (es : List Endorsement) (s : List ℕ) (asked : Content) → IsSignedItem (with_content channel draft es s asked) → length s < 2 ^ 16 → IsWholeItem (with_content channel draft es s asked)
whole_with channel draft es s (content.Tx namespaces) signed short = record { signed = signed; signature = short }
whole_with channel draft es s (content.Update policy) signed short = record { signed = signed; signature = short }

pub is_body : (channel : List ℕ) (draft : Draft) (es : List Endorsement) (s : List ℕ) → IsTrue (is_name channel) → IsWithin draft → IsBodyItem (with_signatures channel draft es s)
is_body channel draft es s n d = body_with channel draft es s draft.content n d d.content

pub is_signed : (channel : List ℕ) (draft : Draft) (es : List Endorsement) (s : List ℕ) → IsTrue (is_name channel) → IsWithin draft → AreEndorsements es → IsSignedItem (with_signatures channel draft es s)
is_signed channel draft es s n d e = signed_with channel draft es s draft.content (is_body channel draft es s n d) e

pub is_whole : (channel : List ℕ) (draft : Draft) (es : List Endorsement) (s : List ℕ) → IsTrue (is_name channel) → IsWithin draft → AreEndorsements es → length s < 2 ^ 16 → IsWholeItem (with_signatures channel draft es s)
is_whole channel draft es s n d e short = whole_with channel draft es s draft.content (is_signed channel draft es s n d e) short

-- ---- encoding

pub encodes : (r : Result (List ℕ) EncodeFault) (wanted : List ℕ) (Spells : List ℕ → Type 0) → IfOk r Spells → (r ≡ Err TooLarge → (bytes : List ℕ) → ¬ Spells bytes)
    → ((bytes : List ℕ) → Spells bytes → (bytes ≡ wanted) × (length bytes ≤ max_tx_bytes)) → (length wanted ≤ max_tx_bytes → Spells wanted) → Encodes r wanted
encodes (Ok bytes) wanted Spells ok large is fits =
    let found = is bytes ok in (found.0, subst (λ (b : List ℕ). length b ≤ max_tx_bytes) found.0 found.1)
encodes (Err TooLarge) wanted Spells ok large is fits = elim (cases_lt max_tx_bytes (length wanted)) [ inl many ↦ many | inr few ↦ absurd (large refl wanted (fits few)) ]
encodes (Err Memory) wanted Spells ok large is fits = tt

-- what is too long already at a part of it
pub longer : (f : EncodeFault) (part rest : List ℕ) → Encodes (Err f) part → Encodes (Err f) (part ++ rest)
longer TooLarge part rest many = omega (arith, many, length-append part rest)
longer Memory part rest many = tt

-- ---- the parts on the way

pub are_those : (keys : List Entry) (body : List ℕ) (draft : Draft) (endorsers : List Identity) (es : List Endorsement) → IsWithin draft → endorsers ≡ draft.endorsers
    → es ≡ map (endorsement_by keys body) endorsers → AreEndorsements es
are_those keys body draft endorsers es d are is =
    subst AreEndorsements (sym (is ∙ ap (map (endorsement_by keys body)) are)) (are_endorsements keys body draft d)

-- the endorsements that were made are those of the draft
pub endorsed_by : (keys : List Entry) (channel body : List ℕ) (draft : Draft) (endorsers : List Identity) (es : List Endorsement) → endorsers ≡ draft.endorsers
    → body ≡ item_body_bytes (unsigned channel draft) → es ≡ map (endorsement_by keys body) endorsers → es ≡ endorsements_of keys channel draft
endorsed_by keys channel body draft endorsers es are signed is =
    is ∙ ap (map (endorsement_by keys body)) are ∙ ap (λ (b : List ℕ). map (endorsement_by keys b) draft.endorsers) signed

-- the creator's signature follows what it signs
whole_behind_signed : (channel : List ℕ) (draft : Draft) (es : List Endorsement) (s : List ℕ) (asked : Content)
    → item_whole_bytes (with_content channel draft es s asked) ≡ item_signed_bytes (with_content channel draft es [] asked) ++ counted 2 s
whole_behind_signed channel draft es s (content.Tx namespaces) = refl
whole_behind_signed channel draft es s (content.Update policy) = refl

pub too_long_already : (f : EncodeFault) (keys : List Entry) (channel : List ℕ) (draft : Draft) (es : List Endorsement) → es ≡ endorsements_of keys channel draft
    → Encodes (Err f) (item_signed_bytes (with_signatures channel draft es [])) → Encodes (Err f) (item_whole_bytes (drafted_item keys channel draft))
too_long_already f keys channel draft es is h =
    let made = endorsements_of keys channel draft in
    let signature = signed_by keys draft.creator (item_signed_bytes (endorsed keys channel draft)) in
    let signed = item_signed_bytes (endorsed keys channel draft) in
    subst (Encodes (Err f)) (sym (whole_behind_signed channel draft made signature draft.content))
    (longer f signed (counted 2 signature) (subst (λ (e : List Endorsement). Encodes (Err f) (item_signed_bytes (with_signatures channel draft e []))) is h))
