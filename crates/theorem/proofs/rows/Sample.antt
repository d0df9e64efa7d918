-- Worked rows: the blocks of the sample, over the ledgers that the blocks before them left; 1 and 2 in parts.
use Rattle.std.proofs.Common.{◌≡◌, ℕ, Bool, true, false, List, [], ◌∷◌, map, cond, Option, Some, None, Ok, refl, ap, ◌∙◌}
use Rattle.std.specs.Prelude.{codes, replicate}
use Rattle.std.specs.Str.{bytes_eq}
use Rattle.std.specs.FinMap.{from_entries, empty, get}
use Rattle.transaction.specs.declared.identity.Identity.{Identity}
use Rattle.transaction.specs.declared.identity.Role.TheVariants.{Peer, Admin, Client}
use Rattle.transaction.specs.declared.item.Item.{Item}
use Rattle.transaction.specs.declared.item.Item.TheVariants as item
use Rattle.transaction.specs.declared.transaction.Range.{Range}
use Rattle.transaction.specs.declared.transaction.Read.{Read}
use Rattle.transaction.specs.declared.transaction.Write.{Write}
use Rattle.transaction.specs.declared.transaction.PolicyWrite.{PolicyWrite}
use Rattle.transaction.specs.declared.transaction.Version.{Version}
use Rattle.transaction.specs.Grammar.{identity_bytes}
use Rattle.header_hash.specs.Hashes.{tx_id_of}
use Rattle.policy.specs.declared.tree.PolicyRole.TheVariants as wanted
use Rattle.policy.specs.Tree.{Tree, principal, gate, none, more}
use Rattle.rules.specs.declared.flag.Flag.{Flag}
use Rattle.rules.specs.declared.flag.Flag.TheVariants.{Valid, BadPayload, DuplicateTxId, EndorsementPolicyFailure, MvccReadConflict, PhantomReadConflict}
use Rattle.rules.specs.declared.row.Row.{Row}
use Rattle.rules.specs.State.{StateKey, key_cmp, with_changes}
use Rattle.rules.specs.World.{World}
use Rattle.rules.proofs.rows.Shared.{peer_of, either_peer, both_peers, both_peers_text, definitions_with, channel, any, kept, chaincode, at, set_of, absent, read_at, found, deleted}
use Rattle.std.specs.FinMap.{insert, get-insert}
use Rattle.std.specs.Cmp.Lexicographic.{nat_list_cmp_total}
use Rattle.channel.specs.Configuration.{Configuration}
use Rattle.policy.specs.Lexing.{front_at, quoted_at, principal_in, word_at, word_in}
use Rattle.policy.specs.Policies.{Policies}
use Rattle.policy.specs.Reading.{policy_at, expression_by, gate_at, gate_by, members_by, head_at, opening_at, separator_at}
use Rattle.rules.proofs.Keys.{bytes_ties}
use Rattle.theorem.specs.Serial.{SoFar, all_taken, after_items}
use Rattle.theorem.proofs.rows.Looks.{uses, scans}

abbrev client : Identity
client = record { org = codes "Org1"; role = Client; label = codes "c0" }

abbrev p0_of : List ℕ → Identity
p0_of org = record { org = org; role = Peer; label = codes "p0" }

abbrev first : Identity
first = p0_of (codes "Org1")

abbrev second : Identity
second = p0_of (codes "Org2")

abbrev admin : Identity
admin = record { org = codes "Org1"; role = Admin; label = codes "a0" }

abbrev id_of : List ℕ → List ℕ
id_of nonce = tx_id_of nonce (identity_bytes client)

abbrev tx : List ℕ → List Read → List Range → List Write → List PolicyWrite → List Identity → Option Item
tx nonce reads ranges writes policy_writes endorsers = Some (item.Tx (record {
  channel = codes "ch";
  id = id_of nonce;
  creator = client;
  nonce = nonce;
  chaincode = chaincode;
  namespaces = set_of chaincode reads ranges writes policy_writes ∷ [];
  endorsements = map (λ e. record { endorser = e; signature = [] }) endorsers;
  signature = [];
}))

abbrev writes : List ℕ → List ℕ → Write
writes key value = record { key = key; value = Some value }

abbrev row : List ℕ → List ℕ → Version → Option Tree → (StateKey × Row)
row key value v policy = ((chaincode, key), record { value = value; version = v; policy = policy })

-- a ledger of this height with these rows; no id of the next block was used
abbrev ledger_of : ℕ → Tree → List (StateKey × Row) → World
ledger_of height policy rows = record { state = from_entries {R = key_cmp} rows; history = empty; first_uses = empty; definitions = definitions_with policy; blocks = replicate height kept }

abbrev flags_over : World → List (Option Item) → List Flag
flags_over w items = (after_items channel any w items).flags

-- ---- given that ids of two nonces differ

abbrev is_same : List ℕ → List ℕ → Bool
is_same m n = bytes_eq (id_of m) (id_of n)

module _ (apart_2_1 : is_same (codes "n2") (codes "n1") ≡ false) (apart_3_1 : is_same (codes "n3") (codes "n1") ≡ false) (apart_3_2 : is_same (codes "n3") (codes "n2") ≡ false) (apart_1_3 : is_same (codes "n1") (codes "n3") ≡ false) (apart_1_2 : is_same (codes "n1") (codes "n2") ≡ false) where
  pub block_0 : flags_over (ledger_of 0 either_peer []) (
      tx (codes "n1") (absent (codes "car1") ∷ []) [] (writes (codes "car1") (codes "red") ∷ []) [] (first ∷ [])
      ∷ tx (codes "n2") (absent (codes "car2") ∷ []) [] (writes (codes "car2") (codes "blue") ∷ []) [] (second ∷ [])
      ∷ tx (codes "n3") [] [] (writes (codes "car3") (codes "grey") ∷ []) [] []
      ∷ tx (codes "n1") [] [] (writes (codes "car4") (codes "grey") ∷ []) [] (first ∷ [])
      ∷ None
      ∷ [])
      ≡ Valid ∷ Valid ∷ EndorsementPolicyFailure ∷ DuplicateTxId ∷ BadPayload ∷ []
  unfolding all_taken with_changes
  block_0 = simp (apart_2_1, apart_3_1, apart_3_2, apart_1_3, apart_1_2, uses) refl

-- after block 0
abbrev cars_1 : List (StateKey × Row)
cars_1 = row (codes "car1") (codes "red") (at 0 0) None ∷ row (codes "car2") (codes "blue") (at 0 1) None ∷ []

abbrev both_cars : Range
both_cars = record { start = codes "car1"; end = codes "car9"; exhausted = true; results = found (codes "car1") (at 0 0) ∷ found (codes "car2") (at 0 1) ∷ [] }

-- car1 is repainted by n5; after that, n6 and n7 find something else than they read, and n8 what it read
abbrev after_n5 : Option Item → List Flag
after_n5 i = flags_over (ledger_of 1 either_peer cars_1) (tx (codes "n5") (read_at (codes "car1") (at 0 0) ∷ []) [] (writes (codes "car1") (codes "green") ∷ []) [] (first ∷ []) ∷ i ∷ [])

pub block_1_n6 : is_same (codes "n6") (codes "n5") ≡ false
    → after_n5 (tx (codes "n6") (read_at (codes "car1") (at 0 0) ∷ []) [] (writes (codes "car1") (codes "black") ∷ []) [] (first ∷ [])) ≡ Valid ∷ MvccReadConflict ∷ []
unfolding all_taken with_changes
block_1_n6 apart = simp (apart, uses) refl

pub block_1_n7 : is_same (codes "n7") (codes "n5") ≡ false
    → after_n5 (tx (codes "n7") [] (both_cars ∷ []) (writes (codes "count") (codes "2") ∷ []) [] (first ∷ [])) ≡ Valid ∷ PhantomReadConflict ∷ []
unfolding all_taken with_changes
block_1_n7 apart = simp (apart, scans, uses) refl

pub block_1_n8 : is_same (codes "n8") (codes "n5") ≡ false
    → after_n5 (tx (codes "n8") (read_at (codes "car1") (at 1 0) ∷ []) [] (writes (codes "car1") (codes "pearl white") ∷ []) [] (second ∷ [])) ≡ Valid ∷ Valid ∷ []
unfolding all_taken with_changes
block_1_n8 apart = simp (apart, uses) refl

pub block_1_n9 : flags_over (ledger_of 1 either_peer cars_1) (tx (codes "n9") [] [] [] (record { key = codes "car2"; policy = Some both_peers_text } ∷ []) (first ∷ []) ∷ []) ≡ Valid ∷ []
unfolding all_taken with_changes
block_1_n9 = simp uses refl

-- after block 1: car1 by its place 3, and car2's policy by its place 4
abbrev cars_2 : List (StateKey × Row)
cars_2 = row (codes "car1") (codes "pearl white") (at 1 3) None ∷ row (codes "car2") (codes "blue") (at 1 4) (Some both_peers) ∷ []

module _ (apart_11_10 : is_same (codes "n11") (codes "n10") ≡ false) (apart_13_12 : is_same (codes "n13") (codes "n12") ≡ false) where
  pub block_2_begins : flags_over (ledger_of 2 either_peer cars_2) (
      tx (codes "n10") [] [] (writes (codes "car2") (codes "black") ∷ []) [] (first ∷ [])
      ∷ tx (codes "n11") (read_at (codes "car2") (at 1 4) ∷ []) [] (writes (codes "car2") (codes "midnight blue") ∷ []) [] (first ∷ second ∷ [])
      ∷ [])
      ≡ EndorsementPolicyFailure ∷ Valid ∷ []
  unfolding all_taken with_changes
  block_2_begins = simp (apart_11_10, uses) refl

  pub block_2_ends : flags_over (ledger_of 2 either_peer cars_2) (
      tx (codes "n12") (read_at (codes "car1") (at 1 3) ∷ []) [] (deleted (codes "car1") ∷ []) [] (first ∷ [])
      ∷ tx (codes "n13") (absent (codes "car3") ∷ []) [] (writes (codes "car3") (codes "yellow") ∷ []) [] (second ∷ [])
      ∷ [])
      ≡ Valid ∷ Valid ∷ []
  unfolding all_taken with_changes
  block_2_ends = simp (apart_13_12, uses) refl

-- ---- the same transaction, before and after an update of the chaincode's policy

abbrev by_admin : List ℕ → List (Option Item)
by_admin nonce = tx nonce (absent (codes "car4") ∷ []) [] (writes (codes "car4") (codes "white") ∷ []) [] (admin ∷ []) ∷ []

-- after the update of block 4
abbrev or_admin : Tree
or_admin = gate 1 (more (peer_of (codes "Org1")) (more (peer_of (codes "Org2")) (more (principal (codes "Org1") wanted.Admin) none)))

pub block_3 : flags_over (ledger_of 3 either_peer cars_2) (by_admin (codes "n14")) ≡ EndorsementPolicyFailure ∷ []
unfolding all_taken with_changes
block_3 = simp uses refl

-- block 4: from the next block on, an admin is enough
abbrev new_text : List ℕ
new_text = codes "OR('Org1.peer','Org2.peer','Org1.admin')"

new_read : policy_at new_text ≡ Ok or_admin
unfolding policy_at expression_by gate_at gate_by members_by head_at opening_at separator_at front_at quoted_at principal_in word_at word_in
new_read = refl

abbrev with_admin : Configuration
with_admin = record channel { admin = Some (principal (codes "Org1") wanted.Admin) }

abbrev after_block_4 : SoFar
after_block_4 = after_items with_admin any (ledger_of 4 either_peer cars_2) (
    Some (item.Update (record {
      channel = codes "ch";
      id = tx_id_of (codes "n15") (identity_bytes admin);
      creator = admin;
      nonce = codes "n15";
      namespace = chaincode;
      policy = new_text;
      endorsements = record { endorser = admin; signature = [] } ∷ [];
      signature = [];
    }))
    ∷ [])

get-definition : (m : Policies) (x : List ℕ) (v : Tree) (q : List ℕ) → get (insert m x v) q ≡ cond (bytes_eq q x) (Some v) (get m q)
get-definition m x v q = get-insert nat_list_cmp_total m x v q ∙ ap (λ b. cond b (Some v) (get m q)) (bytes_ties q x)

pub block_4 : after_block_4.flags ≡ Valid ∷ []
unfolding all_taken
block_4 = simp (new_read, get-definition, uses) refl

pub policy_after_block_4 : get after_block_4.policies chaincode ≡ Some or_admin
unfolding all_taken
policy_after_block_4 = simp (new_read, get-definition, uses) refl

pub block_5 : flags_over (ledger_of 5 or_admin cars_2) (by_admin (codes "n16")) ≡ Valid ∷ []
unfolding all_taken with_changes
block_5 = simp uses refl
