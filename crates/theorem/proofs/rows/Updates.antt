-- Worked rows: updates, and what is hashed of blocks.
use Rattle.std.proofs.Common.{◌≡◌, ℕ, false, cond, List, [], ◌∷◌, ◌++◌, length, map, Option, Some, None, Ok, refl, ap, ◌∙◌}
use Rattle.std.specs.Prelude.{codes, replicate}
use Rattle.std.specs.Str.{bytes_eq}
use Rattle.std.specs.FinMap.{get, empty, insert, get-insert, get-empty}
use Rattle.std.specs.Cmp.Lexicographic.{nat_list_cmp_total}
use Rattle.block.specs.declared.block.Block.{Block}
use Rattle.block.specs.declared.block.Previous.TheVariants.{Hash}
use Rattle.transaction.specs.declared.block_version.BlockVersion.{BlockVersion}
use Rattle.transaction.specs.declared.block_version.BlockVersion.TheVariants.{V1, V2}
use Rattle.transaction.specs.declared.identity.Identity.{Identity}
use Rattle.transaction.specs.declared.item.Item.{Item}
use Rattle.transaction.specs.declared.item.Item.TheVariants as item
use Rattle.transaction.specs.Grammar.{identity_bytes}
use Rattle.header_hash.specs.Hashes.{tx_id_of}
use Rattle.channel.specs.Configuration.{Configuration}
use Rattle.policy.specs.declared.tree.PolicyRole.TheVariants as wanted
use Rattle.policy.specs.Lexing.{front_at, quoted_at, principal_in, word_at, word_in}
use Rattle.policy.specs.Policies.{Policies}
use Rattle.policy.specs.Reading.{policy_at, expression_by, gate_at, gate_by, members_by, head_at, opening_at, separator_at}
use Rattle.policy.specs.Tree.{Tree, principal, gate, none, more}
use Rattle.rules.specs.declared.flag.Flag.TheVariants.{Valid, BadPayload, InvalidConfigTransaction, DuplicateTxId}
use Rattle.rules.specs.CommitBytes.{commit_bytes, commit_hash_before}
use Rattle.rules.specs.Differing.{differing}
use Rattle.rules.specs.State.{with_changes}
use Rattle.rules.specs.World.{World, last_commit_hash}
use Rattle.values.specs.Order.{bytes_cmp}
use Rattle.rules.proofs.Keys.{bytes_ties}
use Rattle.rules.proofs.rows.Shared.{peer_of, either_peer, definitions_with, chaincode, zz, p0, a0, any, an_id, endorsed_by, writes_k, kept, broken_text}
use Rattle.theorem.specs.Serial.{SoFar, all_taken, after_items}
use Rattle.theorem.specs.Step.{commit_in}
use Rattle.theorem.proofs.rows.Looks.{uses, scans}

abbrev new_text : List ℕ
new_text = codes "OR('Org2.peer')"

abbrev second_peer : Tree
second_peer = gate 1 (more (peer_of (codes "Org2")) none)

new_read : policy_at new_text ≡ Ok second_peer
unfolding policy_at expression_by gate_at gate_by members_by head_at opening_at separator_at front_at quoted_at principal_in word_at word_in
new_read = refl

-- a channel whose updates need the admin of Org1
abbrev channel : Configuration
channel = record { name = codes "ch"; definitions = definitions_with either_peer; admin = Some (gate 1 (more (principal (codes "Org1") wanted.Admin) none)) }

abbrev without_admin : Configuration
without_admin = record channel { admin = None }

-- without rows
abbrev ledger_1 : World
ledger_1 = record { state = empty; history = empty; first_uses = empty; definitions = channel.definitions; blocks = kept ∷ [] }

abbrev update_id : List ℕ
update_id = tx_id_of (codes "n2") (identity_bytes a0)

abbrev update_of : List ℕ → List ℕ → List Identity → Option Item
update_of namespace text endorsers = Some (item.Update (record {
  channel = codes "ch";
  id = update_id;
  creator = a0;
  nonce = codes "n2";
  namespace = namespace;
  policy = text;
  endorsements = map (λ e. record { endorser = e; signature = [] }) endorsers;
  signature = [];
}))

abbrev good : Option Item
good = update_of chaincode new_text (a0 ∷ [])

abbrev executed : List (Option Item) → SoFar
executed items = after_items channel any ledger_1 items

get-definition : (m : Policies) (x : List ℕ) (v : Tree) (q : List ℕ) → get (insert m x v) q ≡ cond (bytes_eq q x) (Some v) (get m q)
get-definition m x v q = get-insert nat_list_cmp_total m x v q ∙ ap (λ b. cond b (Some v) (get m q)) (bytes_ties q x)

get-no_definition : (q : List ℕ) → get (empty {X = Tree} {R = bytes_cmp}) q ≡ None
get-no_definition q = get-empty bytes_cmp q

ruleset updating = (get-definition, get-no_definition, new_read, uses)

-- ---- alone in its block

pub valid_alone : (executed (good ∷ [])).flags ≡ Valid ∷ []
unfolding all_taken
valid_alone = simp updating refl

pub policy_after_it : get (executed (good ∷ [])).policies chaincode ≡ Some second_peer
unfolding all_taken
policy_after_it = simp updating refl

pub state_after_it : (executed (good ∷ [])).state ≡ ledger_1.state
unfolding all_taken
state_after_it = simp updating refl

-- ---- not alone

pub beside_malformed_bytes : (executed (good ∷ None ∷ [])).flags ≡ InvalidConfigTransaction ∷ BadPayload ∷ []
unfolding all_taken
beside_malformed_bytes = simp updating refl

pub policy_after_both : (executed (good ∷ None ∷ [])).policies ≡ ledger_1.definitions
unfolding all_taken
policy_after_both = simp updating refl

pub two_of_one_id : (executed (good ∷ good ∷ [])).flags ≡ InvalidConfigTransaction ∷ DuplicateTxId ∷ []
unfolding all_taken
two_of_one_id = simp updating refl

pub before_a_transaction : bytes_eq an_id update_id ≡ false → (executed (good ∷ Some (item.Tx (endorsed_by (p0 ∷ []) writes_k)) ∷ [])).flags ≡ InvalidConfigTransaction ∷ Valid ∷ []
unfolding all_taken with_changes
before_a_transaction apart = simp (apart, updating) refl

-- ---- what else has flag 6

pub endorsed_by_a_peer : (executed (update_of chaincode new_text (p0 ∷ []) ∷ [])).flags ≡ InvalidConfigTransaction ∷ []
unfolding all_taken
endorsed_by_a_peer = simp updating refl

pub endorsed_by_nobody : (executed (update_of chaincode new_text [] ∷ [])).flags ≡ InvalidConfigTransaction ∷ []
unfolding all_taken
endorsed_by_nobody = simp updating refl

pub no_admin : (after_items without_admin any ledger_1 (good ∷ [])).flags ≡ InvalidConfigTransaction ∷ []
unfolding all_taken
no_admin = simp updating refl

pub no_policy_to_replace : (executed (update_of zz new_text (a0 ∷ []) ∷ [])).flags ≡ InvalidConfigTransaction ∷ []
unfolding all_taken
no_policy_to_replace = simp updating refl

pub not_a_policy : (executed (update_of chaincode broken_text (a0 ∷ []) ∷ [])).flags ≡ InvalidConfigTransaction ∷ []
unfolding all_taken
not_a_policy = simp updating refl

-- ---- what is hashed of a block of version 2 that replaces a policy, after the commit hash of block 0

abbrev block_1 : BlockVersion → Block
block_1 version = record { version = version; header = record { number = 1; previous = Hash (replicate 32 1); data_hash = replicate 32 0 }; txs = [] }

abbrev hashed : BlockVersion → List (Option Item) → List ℕ
hashed version items = commit_hash_before (last_commit_hash ledger_1) ++ commit_bytes (commit_in ledger_1 (block_1 version) (executed items))

-- 32 bytes of the commit hash before; 2, the version; 1, the number; one flag, 0; no rows; a policy, of cc, with its
-- text of 15 bytes
pub policy_is_hashed : hashed V2 (good ∷ [])
    ≡ replicate 32 5 ++ (2 ∷ (replicate 7 0 ++ (1 ∷ (0 ∷ 0 ∷ 0 ∷ 1 ∷ 0 ∷ (0 ∷ 0 ∷ 0 ∷ 0 ∷ (1 ∷ (2 ∷ 0x63 ∷ 0x63 ∷ (0 ∷ 0x0f ∷ new_text))))))))
unfolding all_taken differing with_changes
policy_is_hashed = simp (scans, updating) refl

pub length-policy_is_hashed : length (hashed V2 (good ∷ [])) ≡ 71
unfolding all_taken differing with_changes
length-policy_is_hashed = simp (scans, updating) refl

-- one that is endorsed by a peer has flag 6, and replaces no policy
pub no_policy_is_hashed : hashed V2 (update_of chaincode new_text (p0 ∷ []) ∷ [])
    ≡ replicate 32 5 ++ (2 ∷ (replicate 7 0 ++ (1 ∷ (0 ∷ 0 ∷ 0 ∷ 1 ∷ 6 ∷ (0 ∷ 0 ∷ 0 ∷ 0 ∷ (0 ∷ []))))))
unfolding all_taken differing with_changes
no_policy_is_hashed = simp (scans, updating) refl

-- a transaction that writes k: one row, of cc and k, with version 1 0, the value v and no policy; no policy of a
-- chaincode
pub row_is_hashed : hashed V1 (Some (item.Tx (endorsed_by (p0 ∷ []) writes_k)) ∷ [])
    ≡ replicate 32 5
    ++ (1 ∷ (replicate 7 0 ++ (1 ∷ (0 ∷ 0 ∷ 0 ∷ 1 ∷ 0 ∷ (0 ∷ 0 ∷ 0 ∷ 1 ∷ (2 ∷ 0x63 ∷ 0x63 ∷ (0 ∷ 1 ∷ 0x6b ∷ (1 ∷ (replicate 7 0 ++ (1 ∷ (0 ∷ 0 ∷ 0 ∷ 0 ∷ (0 ∷ 0 ∷ 0 ∷ 1 ∷ 0x76 ∷ (0 ∷ 0 ∷ (0 ∷ []))))))))))))))
unfolding all_taken differing with_changes
row_is_hashed = simp (scans, updating) refl
