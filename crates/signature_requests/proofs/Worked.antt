-- Worked rows of the list of requests: each computes, and a wrong expectation is refused.
use Rattle.std.proofs.Common.{◌≡◌, ℕ, true, false, map, List, [], ◌∷◌, ◌++◌, replicate, Some, None, refl}
use Rattle.std.specs.Prelude.{codes}
use Rattle.block.specs.declared.block.Block.{Block}
use Rattle.block.specs.declared.block.Previous.TheVariants.{Empty}
use Rattle.transaction.specs.declared.block_version.BlockVersion.{BlockVersion}
use Rattle.transaction.specs.declared.block_version.BlockVersion.TheVariants.{V1, V2}
use Rattle.transaction.specs.declared.identity.Identity.{Identity}
use Rattle.transaction.specs.declared.identity.Role.TheVariants.{Admin, Peer}
use Rattle.transaction.specs.declared.transaction.Endorsement.{Endorsement}
use Rattle.transaction.specs.declared.transaction.Tx.{Tx}
use Rattle.transaction.specs.declared.update.Update.{Update}
use Rattle.transaction.specs.declared.item.Item.TheVariants as item
use Rattle.transaction.specs.UpdateGrammar.{update_whole_bytes}
use Rattle.transaction.specs.Reading.{name_at, identity_at, endorsement_at, body_at, tx_at, whole_tx_at}
use Rattle.transaction.specs.Combined.{fields_at}
use Rattle.transaction.specs.Openings.{opening_at}
use Rattle.transaction.specs.UpdateReading.{update_at, whole_update_at}
use Rattle.signature_requests.specs.declared.request.Request.{Request}
use Rattle.signature_requests.specs.Requests.{requests_of, requests_in, block_requests}
use Rattle.signature_requests.specs.Agreement.{answer_to}
use Rattle.signature_requests.specs.Told.{told, told_to}

abbrev asks : Identity → List ℕ → List ℕ → Request
asks identity message signature = record { identity = identity; message = message; signature = signature }

abbrev endorsed : Identity → List ℕ → Endorsement
endorsed endorser signature = record { endorser = endorser; signature = signature }

-- `A:admin:` and `B:peer:p`, with their bytes
abbrev admin : Identity
admin = record { org = codes "A"; role = Admin; label = [] }

abbrev peer : Identity
peer = record { org = codes "B"; role = Peer; label = codes "p" }

abbrev admin_spelled : List ℕ
admin_spelled = 1 ∷ 65 ∷ 0 ∷ 0 ∷ []

abbrev peer_spelled : List ℕ
peer_spelled = 1 ∷ 66 ∷ 2 ∷ 1 ∷ 112 ∷ []

-- ---- a transaction

-- created by the admin, endorsed by the peer and by the admin
abbrev tx : Tx
tx = record {
  channel = codes "c";
  id = 7 ∷ 7 ∷ [];
  creator = admin;
  nonce = 9 ∷ [];
  chaincode = codes "k";
  namespaces = [];
  endorsements = endorsed peer (5 ∷ []) ∷ endorsed admin [] ∷ [];
  signature = 6 ∷ 6 ∷ [];
}

-- channel, id, creator, nonce, chaincode, no namespaces
abbrev tx_body : List ℕ
tx_body = 1 ∷ 99 ∷ 7 ∷ 7 ∷ 1 ∷ 65 ∷ 0 ∷ 0 ∷ 1 ∷ 9 ∷ 1 ∷ 107 ∷ 0 ∷ 0 ∷ []

-- two endorsements, each an identity and a signature
abbrev tx_requests : List Request
tx_requests =
    asks admin (tx_body ++ (2 ∷ 1 ∷ 66 ∷ 2 ∷ 1 ∷ 112 ∷ 0 ∷ 1 ∷ 5 ∷ 1 ∷ 65 ∷ 0 ∷ 0 ∷ 0 ∷ 0 ∷ [])) (6 ∷ 6 ∷ [])
    ∷ asks peer (tx_body ++ peer_spelled) (5 ∷ [])
    ∷ asks admin (tx_body ++ admin_spelled) []
    ∷ []

pub creator_and_endorsers_of_a_transaction : requests_of (Some (item.Tx tx)) ≡ tx_requests
creator_and_endorsers_of_a_transaction = refl

-- ---- an update

-- endorsed by the peer twice, each of which is asked
abbrev update_with : List ℕ → Update
update_with id = record {
  channel = codes "c";
  id = id;
  creator = admin;
  nonce = 9 ∷ [];
  namespace = codes "k";
  policy = codes "OR";
  endorsements = endorsed peer (5 ∷ []) ∷ endorsed peer (4 ∷ []) ∷ [];
  signature = 8 ∷ [];
}

-- the byte 0, channel, id, creator, nonce, namespace, policy
abbrev update_body : List ℕ → List ℕ
update_body id = (0 ∷ 1 ∷ 99 ∷ id) ++ (1 ∷ 65 ∷ 0 ∷ 0 ∷ 1 ∷ 9 ∷ 1 ∷ 107 ∷ 0 ∷ 2 ∷ 79 ∷ 82 ∷ [])

abbrev update_requests : List ℕ → List Request
update_requests id =
    asks admin (update_body id ++ (2 ∷ 1 ∷ 66 ∷ 2 ∷ 1 ∷ 112 ∷ 0 ∷ 1 ∷ 5 ∷ 1 ∷ 66 ∷ 2 ∷ 1 ∷ 112 ∷ 0 ∷ 1 ∷ 4 ∷ [])) (8 ∷ [])
    ∷ asks peer (update_body id ++ peer_spelled) (5 ∷ [])
    ∷ asks peer (update_body id ++ peer_spelled) (4 ∷ [])
    ∷ []

pub creator_and_endorsers_of_an_update : requests_of (Some (item.Update (update_with (3 ∷ [])))) ≡ update_requests (3 ∷ [])
creator_and_endorsers_of_an_update = refl

-- ---- blocks

-- of bytes that spell nothing, nothing
pub items_in_order : requests_in (None ∷ Some (item.Update (update_with (3 ∷ []))) ∷ None ∷ Some (item.Tx tx) ∷ []) ≡ update_requests (3 ∷ []) ++ tx_requests
items_in_order = refl

abbrev id : List ℕ
id = replicate 64 7

abbrev block_of : BlockVersion → Block
block_of version = record { version = version; header = record { number = 0; previous = Empty; data_hash = replicate 32 0 }; txs = update_whole_bytes (update_with id) ∷ [] }

pub update_of_a_block : block_requests (block_of V2) ≡ update_requests id
unfolding name_at identity_at endorsement_at fields_at opening_at update_at whole_update_at
update_of_a_block = refl

-- where the bytes of an update spell nothing
pub no_update_in_version_1 : block_requests (block_of V1) ≡ []
unfolding name_at body_at tx_at whole_tx_at
no_update_in_version_1 = refl

-- ---- a verifier that was told the answers

pub answers_as_told : map (answer_to (told tx_requests (true ∷ false ∷ true ∷ []))) tx_requests ≡ true ∷ false ∷ true ∷ []
answers_as_told = refl

-- another signature of the peer, another message, and another identity
pub nothing_else_is_accepted : map (told_to tx_requests (true ∷ true ∷ true ∷ [])) (asks peer (tx_body ++ peer_spelled) (6 ∷ []) ∷ asks peer tx_body (5 ∷ []) ∷ asks admin (tx_body ++ peer_spelled) (5 ∷ []) ∷ []) ≡ false ∷ false ∷ false ∷ []
nothing_else_is_accepted = refl

-- of one that is asked twice
pub first_answer_counts : told_to (asks peer tx_body (5 ∷ []) ∷ asks peer tx_body (5 ∷ []) ∷ []) (false ∷ true ∷ []) (asks peer tx_body (5 ∷ [])) ≡ false
first_answer_counts = refl

pub without_an_answer_refused : told_to (asks peer tx_body (5 ∷ []) ∷ []) [] (asks peer tx_body (5 ∷ [])) ≡ false
without_an_answer_refused = refl
