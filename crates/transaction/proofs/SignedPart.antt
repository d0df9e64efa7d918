-- The parts of the bytes of a transaction or an update: the signed part, the body and the creator's identity.
use Rattle.std.proofs.Common.{◌≡◌, ℕ, ◌+◌, ◌≤◌, List, [], ◌∷◌, ◌++◌, length, sym, ap, ◌∙◌, append_assoc, arith}
use Rattle.std.proofs.lemmas.List.{length-append}
use Rattle.byteorder.specs.Endian.{big_bytes}
use Rattle.transaction.specs.declared.transaction.Endorsement.{Endorsement}
use Rattle.transaction.specs.declared.transaction.Tx.{Tx}
use Rattle.transaction.specs.declared.update.Update.{Update}
use Rattle.transaction.specs.Limits.{id_bytes}
use Rattle.transaction.specs.Grammar.{counted, listed, identity_bytes, namespace_bytes, endorsement_bytes, signed_bytes, SpellsTx, SpellsSigned}
use Rattle.transaction.specs.UpdateGrammar.{update_signed_bytes, SpellsUpdate, SpellsSignedUpdate}
use Rattle.transaction.specs.Cuts.{EndsIn, HasBehind}

-- ---- the signed part

shorter : (front ending bytes : List ℕ) → bytes ≡ front ++ ending → length front ≤ length bytes
shorter front ending bytes e = omega (arith, ap length e, length-append front ending)

pub signed_tx : (tx : Tx) (bytes part : List ℕ) → SpellsTx bytes tx → part ≡ signed_bytes tx → SpellsSigned part tx
signed_tx tx bytes part s e =
    record { fits = s.fits.signed; fields = e; short = omega (arith, ap length e, shorter (signed_bytes tx) (counted 2 tx.signature) bytes s.fields, s.short) }

pub signed_update : (u : Update) (bytes part : List ℕ) → SpellsUpdate bytes u → part ≡ update_signed_bytes u → SpellsSignedUpdate part u
signed_update u bytes part s e =
    record { fits = s.fits.signed; fields = e; short = omega (arith, ap length e, shorter (update_signed_bytes u) (counted 2 u.signature) bytes s.fields, s.short) }

-- ---- endorsements behind a body

pub ends_in : (body signed : List ℕ) (es found : List Endorsement) → signed ≡ body ++ listed 1 endorsement_bytes es → found ≡ es → EndsIn (listed 1 endorsement_bytes found) signed
ends_in body signed es found e same = record { front = body; parts = e ∙ ap (λ (xs : List Endorsement). body ++ listed 1 endorsement_bytes xs) (sym same) }

-- ---- the creator's identity bytes stand behind the channel and the id

behind_id : (mark channel id creator others bytes : List ℕ) (start : ℕ) → length id ≡ id_bytes → start ≡ length mark + (1 + length channel) + id_bytes
    → bytes ≡ mark ++ (counted 1 channel ++ (id ++ (creator ++ others))) → HasBehind start creator bytes
behind_id mark channel id creator others bytes start size first e = record {
  front = mark ++ (counted 1 channel ++ id);
  rest = others;
  len = omega (arith, length-append mark (counted 1 channel ++ id), length-append (counted 1 channel) id, length-append (big_bytes 1 (length channel)) channel, size, first);
  parts = e ∙ regroup mark (counted 1 channel) id (creator ++ others);
}
  where
    regroup : (a b c d : List ℕ) → a ++ (b ++ (c ++ d)) ≡ (a ++ (b ++ c)) ++ d
    regroup a b c d = simp append_assoc

regrouped : (mark a b c d e f : List ℕ) → ((mark ++ (a ++ (b ++ (c ++ d)))) ++ e) ++ f ≡ mark ++ (a ++ (b ++ (c ++ (d ++ (e ++ f)))))
regrouped mark a b c d e f = simp append_assoc

pub creator_of_tx : (tx : Tx) (bytes : List ℕ) (start : ℕ) → SpellsTx bytes tx → start ≡ 1 + length tx.channel + id_bytes → HasBehind start (identity_bytes tx.creator) bytes
creator_of_tx tx bytes start s first =
    let behind : List ℕ = counted 1 tx.nonce ++ (counted 1 tx.chaincode ++ listed 2 namespace_bytes tx.namespaces) in
    let es : List ℕ = listed 1 endorsement_bytes tx.endorsements in
    let signature : List ℕ = counted 2 tx.signature in
    behind_id [] tx.channel tx.id (identity_bytes tx.creator) (behind ++ (es ++ signature)) bytes start s.fits.signed.body.id (omega (arith, first))
    (s.fields ∙ regrouped [] (counted 1 tx.channel) tx.id (identity_bytes tx.creator) behind es signature)

pub creator_of_update : (u : Update) (bytes : List ℕ) (start : ℕ) → SpellsUpdate bytes u → start ≡ 2 + length u.channel + id_bytes → HasBehind start (identity_bytes u.creator) bytes
creator_of_update u bytes start s first =
    let behind : List ℕ = counted 1 u.nonce ++ (counted 1 u.namespace ++ counted 2 u.policy) in
    let es : List ℕ = listed 1 endorsement_bytes u.endorsements in
    let signature : List ℕ = counted 2 u.signature in
    behind_id (0 ∷ []) u.channel u.id (identity_bytes u.creator) (behind ++ (es ++ signature)) bytes start s.fits.signed.body.id (omega (arith, first))
    (s.fields ∙ regrouped (0 ∷ []) (counted 1 u.channel) u.id (identity_bytes u.creator) behind es signature)
