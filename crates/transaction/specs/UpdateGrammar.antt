-- The grammar of updates of definitions: which bytes spell which update.
use Rattle.std.specs.Prelude.{◌≡◌, ℕ, ◌^◌, ◌<◌, ◌≤◌, List, ◌∷◌, ◌++◌, length, IsTrue}
use Rattle.values.specs.Name.{is_name}
use Rattle.transaction.specs.declared.update.Update.{Update}
use Rattle.transaction.specs.Limits.{id_bytes, max_tx_bytes}
use Rattle.transaction.specs.Grammar.{counted, listed, identity_bytes, endorsement_bytes, IsIdentity, AreEndorsements}

-- the byte 0, with which no transaction begins; channel, id, creator, nonce, namespace, the policy's text
abbrev pub update_body_bytes : Update → List ℕ
update_body_bytes u =
    0 ∷ (counted 1 u.channel ++ (u.id ++ (identity_bytes u.creator ++ (counted 1 u.nonce ++ (counted 1 u.namespace ++ counted 2 u.policy)))))

-- the body and the endorsements
abbrev pub update_signed_bytes : Update → List ℕ
update_signed_bytes u = update_body_bytes u ++ listed 1 endorsement_bytes u.endorsements

-- the signed part and the creator's signature
abbrev pub update_whole_bytes : Update → List ℕ
update_whole_bytes u = update_signed_bytes u ++ counted 2 u.signature

-- ---- what is within its limits

pub record IsUpdateBody (u : Update) : Type 0 where
  pub channel : IsTrue (is_name u.channel)
  pub id : length u.id ≡ id_bytes
  pub creator : IsIdentity u.creator
  pub nonce : length u.nonce < 2 ^ 8
  pub namespace : IsTrue (is_name u.namespace)
  pub policy : length u.policy < 2 ^ 16

pub record IsSignedUpdate (u : Update) : Type 0 where
  pub body : IsUpdateBody u
  pub endorsements : AreEndorsements u.endorsements

pub record IsWholeUpdate (u : Update) : Type 0 where
  pub signed : IsSignedUpdate u
  pub signature : length u.signature < 2 ^ 16

-- ---- which bytes spell which update; each of the three has at most 1,048,576 bytes by itself

pub record SpellsUpdateBody (bytes : List ℕ) (u : Update) : Type 0 where
  pub fits : IsUpdateBody u
  pub fields : bytes ≡ update_body_bytes u
  pub short : length bytes ≤ max_tx_bytes

pub record SpellsSignedUpdate (bytes : List ℕ) (u : Update) : Type 0 where
  pub fits : IsSignedUpdate u
  pub fields : bytes ≡ update_signed_bytes u
  pub short : length bytes ≤ max_tx_bytes

pub record SpellsUpdate (bytes : List ℕ) (u : Update) : Type 0 where
  pub fits : IsWholeUpdate u
  pub fields : bytes ≡ update_whole_bytes u
  pub short : length bytes ≤ max_tx_bytes
