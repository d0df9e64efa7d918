-- Rows worked by hand. SHA-256 isn't computed here: its arguments are.
use Rattle.std.proofs.Common.{◌≡◌, ℕ, ◌+◌, List, [], ◌∷◌, ◌++◌, length, Bool, true, false, cond, Some, None, Result, Ok, Err, refl, ap}
use Rattle.std.specs.Prelude.{codes, nat_lt}
use Rattle.sha2.specs.Sha256.{sha256}
use Rattle.hex.specs.Hex.{encode_lower}
use Rattle.hex.proofs.OnLiterals.{hex_on_literals}
use Rattle.transaction.specs.Grammar.{counted}
use Rattle.transaction.specs.Items.{item_body_bytes}
use Rattle.transaction.specs.declared.identity.Identity.{Identity}
use Rattle.transaction.specs.declared.identity.Role.TheVariants.{Client, Peer}
use Rattle.transaction.specs.declared.transaction.NsSet.{NsSet}
use Rattle.transaction.specs.declared.item.Item.{Item}
use Rattle.transaction.specs.declared.item.Item.TheVariants as item
use Rattle.header_hash.specs.Der.{der_of}
use Rattle.block.specs.declared.block.Header.{Header}
use Rattle.block.specs.declared.block.Previous.TheVariants.{Hash}
use Rattle.key_book.specs.Entry.{Entry}
use Rattle.key_book.specs.Hmac.{hmac}
use Rattle.scripts.specs.declared.draft.Content.TheVariants as content
use Rattle.scripts.specs.declared.script.Item.TheVariants.{Raw, Drafted}
use Rattle.scripts.specs.Draft.{Draft}
use Rattle.drafts.specs.declared.fault.DraftFault.{DraftFault}
use Rattle.drafts.specs.declared.fault.DraftFault.TheVariants.{Line}
use Rattle.drafts.specs.DraftItem.{item_signed_bytes, item_whole_bytes, unsigned, endorsed, drafted_item, is_too_long}
use Rattle.transaction.specs.declared.block_version.BlockVersion.TheVariants.{V1, V2}
use Rattle.drafts.specs.DraftBlock.{◌>>=◌, item_bytes, or_line, script_txs, block_after, txs_of, drafted}

client : Identity
client = record { org = codes "Org1"; role = Client; label = codes "c0" }

peer : Identity
peer = record { org = codes "Org1"; role = Peer; label = codes "p0" }

keys : List Entry
keys = record { identity = client; key = 7 ∷ [] } ∷ record { identity = peer; key = 8 ∷ [] } ∷ []

abbrev written : NsSet
written =
    record {
      name = codes "cc";
      reads = [];
      ranges = [];
      writes = record { key = codes "k1"; value = Some (codes "v1") } ∷ [];
      policy_writes = record { key = codes "k1"; policy = Some (codes "AND('Org1.peer','Org2.peer')") } ∷ [];
    }

-- what the script of a write, a policy write and an endorser states about line 1
abbrev draft : Draft
draft = record { line = 1; creator = client; nonce = codes "n0"; chaincode = codes "cc"; content = content.Tx (written ∷ []); endorsers = peer ∷ [] }

abbrev client_bytes : List ℕ
client_bytes = 4 ∷ (codes "Org1" ++ (1 ∷ 2 ∷ codes "c0"))

abbrev peer_bytes : List ℕ
peer_bytes = 4 ∷ (codes "Org1" ++ (2 ∷ 2 ∷ codes "p0"))

-- of the nonce, then the creator
abbrev id : List ℕ
id = encode_lower (sha256 (codes "n0" ++ client_bytes))

-- two bytes count: one namespace, no reads, no ranges, one write, one policy write
abbrev body : List ℕ
body =
    2 ∷ (codes "ch" ++ (id ++ (client_bytes ++ (2 ∷ (codes "n0" ++ (2 ∷ (codes "cc"
    ++ (0 ∷ 1 ∷ 2 ∷ (codes "cc" ++ (0 ∷ 0 ∷ 0 ∷ 0 ∷ 0 ∷ 1 ∷ 0 ∷ 2 ∷ (codes "k1" ++ (1 ∷ 0 ∷ 0 ∷ 0 ∷ 2 ∷ (codes "v1"
    ++ (0 ∷ 1 ∷ 0 ∷ 2 ∷ (codes "k1" ++ (1 ∷ 0 ∷ 28 ∷ codes "AND('Org1.peer','Org2.peer')"))))))))))))))))

the_body : item_body_bytes (unsigned (codes "ch") draft) ≡ body
unfolding client peer keys
the_body = refl

the_transaction : drafted_item keys (codes "ch") draft
    ≡ item.Tx (record {
      channel = codes "ch";
      id = id;
      creator = client;
      nonce = codes "n0";
      chaincode = codes "cc";
      namespaces = written ∷ [];
      endorsements = record { endorser = peer; signature = hmac (8 ∷ []) (body ++ peer_bytes) } ∷ [];
      signature = hmac (7 ∷ []) (item_signed_bytes (endorsed keys (codes "ch") draft));
    })
unfolding client peer keys
the_transaction = refl

-- ---- an update

-- what the script of an update and an endorser states about line 1
abbrev update_draft : Draft
update_draft = record { line = 1; creator = client; nonce = codes "n0"; chaincode = codes "cc"; content = content.Update (codes "OR('Org2.peer')"); endorsers = peer ∷ [] }

-- the byte 0 first; two bytes count the text
abbrev update_body : List ℕ
update_body = 0 ∷ 2 ∷ (codes "ch" ++ (id ++ (client_bytes ++ (2 ∷ (codes "n0" ++ (2 ∷ (codes "cc" ++ (0 ∷ 15 ∷ codes "OR('Org2.peer')"))))))))

abbrev peer_signature : List ℕ
peer_signature = hmac (8 ∷ []) (update_body ++ peer_bytes)

-- the body and one endorsement
abbrev update_message : List ℕ
update_message = update_body ++ (1 ∷ ((peer_bytes ++ counted 2 peer_signature) ++ []))

the_update : drafted_item keys (codes "ch") update_draft
    ≡ item.Update (record {
      channel = codes "ch";
      id = id;
      creator = client;
      nonce = codes "n0";
      namespace = codes "cc";
      policy = codes "OR('Org2.peer')";
      endorsements = record { endorser = peer; signature = peer_signature } ∷ [];
      signature = hmac (7 ∷ []) (item_signed_bytes (endorsed keys (codes "ch") update_draft));
    })
unfolding client peer keys
the_update = refl

the_message : item_signed_bytes (endorsed keys (codes "ch") update_draft) ≡ update_message
unfolding client peer keys
the_message = refl

-- ---- scripts

raw_alone : txs_of V1 keys (codes "ch") (codes "raw 0aFF" ++ 10 ∷ codes "raw") ≡ Ok ((10 ∷ 255 ∷ []) ∷ [] ∷ [])
unfolding client peer keys hex_on_literals
raw_alone = refl

update_in_version_1 : txs_of V1 keys (codes "ch") (codes "raw" ++ 10 ∷ codes "update Org1:client:c0 n0 cc x") ≡ Err (Line 2)
unfolding client peer keys hex_on_literals
update_in_version_1 = refl

faulty : txs_of V1 keys (codes "ch") (codes "raw" ++ 10 ∷ codes "raw 0") ≡ Err (Line 2)
unfolding client peer keys hex_on_literals
faulty = refl

-- a transaction of the most bytes, and one of a byte more
longest : (made : Item) → length (item_whole_bytes made) ≡ 1048576 → is_too_long made ≡ false
longest made is = ap (nat_lt 1048576) is

one_byte_more : (made : Item) → length (item_whole_bytes made) ≡ 1048577 → is_too_long made ≡ true
one_byte_more made is = ap (nat_lt 1048576) is

-- the line of one that is too long, before a faulty line after it
too_long_first : (d : Draft) → is_too_long (drafted_item keys (codes "ch") d) ≡ true → script_txs keys (codes "ch") (record { items = Raw [] ∷ Drafted d ∷ []; fault = Some 9 }) ≡ Err (Line d.line)
too_long_first d long =
    let tx = item_whole_bytes (drafted_item keys (codes "ch") d) in
    let fails : item_bytes keys (codes "ch") (Drafted d) ≡ Err (Line d.line) = ap (λ (b : Bool). cond b (Err (Line d.line)) (Ok tx)) long in
    ap (λ (r : Result (List ℕ) DraftFault). ((r >>= λ f. Ok (f ∷ [])) >>= λ others. Ok ([] ∷ others)) >>= or_line (Some 9)) fails

short_enough : (d : Draft) → is_too_long (drafted_item keys (codes "ch") d) ≡ false → script_txs keys (codes "ch") (record { items = Drafted d ∷ []; fault = Some 9 }) ≡ Err (Line 9)
short_enough d short =
    let tx = item_whole_bytes (drafted_item keys (codes "ch") d) in
    let reads : item_bytes keys (codes "ch") (Drafted d) ≡ Ok tx = ap (λ (b : Bool). cond b (Err (Line d.line)) (Ok tx)) short in
    ap (λ (r : Result (List ℕ) DraftFault). (r >>= λ f. Ok (f ∷ [])) >>= or_line (Some 9)) reads

-- ---- blocks

first_of_all : drafted keys (codes "ch") V1 None [] ≡ Ok (0x46 ∷ 0x42 ∷ 0x4b ∷ 0x31 ∷ 0 ∷ 0 ∷ 0 ∷ 0 ∷ 0 ∷ 0 ∷ 0 ∷ 0 ∷ 0 ∷ (sha256 [] ++ (0 ∷ 0 ∷ 0 ∷ 0 ∷ [])))
unfolding client peer keys
first_of_all = refl

second_format : drafted keys (codes "ch") V2 None [] ≡ Ok (0x46 ∷ 0x42 ∷ 0x4b ∷ 0x32 ∷ 0 ∷ 0 ∷ 0 ∷ 0 ∷ 0 ∷ 0 ∷ 0 ∷ 0 ∷ 0 ∷ (sha256 [] ++ (0 ∷ 0 ∷ 0 ∷ 0 ∷ [])))
unfolding client peer keys
second_format = refl

behind_another : (h : Header) → h.number ≡ 4 → (block_after V1 (Some h) ((1 ∷ []) ∷ (2 ∷ []) ∷ [])).header ≡ record { number = 5; previous = Hash (sha256 (der_of h)); data_hash = sha256 (1 ∷ 2 ∷ []) }
behind_another h four = ap (λ (n : ℕ). record { number = n + 1; previous = Hash (sha256 (der_of h)); data_hash = sha256 (1 ∷ 2 ∷ []) }) four
