-- Updates of definitions, in blocks of version 2.
use Rattle.std.proofs.Common.{◌≡◌, ℕ, false, cond, List, [], ◌∷◌, map, Option, Some, None, Ok, refl, ap, ◌∙◌, arith}
use Rattle.std.specs.Prelude.{codes, replicate}
use Rattle.std.specs.Str.{bytes_eq}
use Rattle.std.specs.FinMap.{insert, get, get-insert}
use Rattle.std.specs.Cmp.Lexicographic.{nat_list_cmp_total}
use Rattle.std.specs.FinMap.{empty}
use Rattle.transaction.specs.declared.block_version.BlockVersion.TheVariants.{V1, V2}
use Rattle.transaction.specs.declared.identity.Identity.{Identity}
use Rattle.transaction.specs.declared.transaction.Tx.{Tx}
use Rattle.transaction.specs.declared.update.Update.{Update}
use Rattle.transaction.specs.declared.item.Item.{Item}
use Rattle.transaction.specs.declared.item.Item.TheVariants as item
use Rattle.transaction.specs.Grammar.{identity_bytes}
use Rattle.transaction.specs.Reading.{name_at, body_at, tx_at, whole_tx_at}
use Rattle.transaction.specs.Items.{item_of}
use Rattle.header_hash.specs.Hashes.{tx_id_of, data_hash_of}
use Rattle.policy.specs.declared.tree.PolicyRole.TheVariants as wanted
use Rattle.policy.specs.Tree.{Tree, principal, gate, none, more}
use Rattle.policy.specs.Lexing.{front_at, quoted_at, principal_in, word_at, word_in}
use Rattle.policy.specs.Reading.{policy_at, expression_by, gate_at, gate_by, members_by, head_at, opening_at, separator_at}
use Rattle.policy.specs.Policies.{Policies}
use Rattle.channel.specs.Configuration.{Configuration}
use Rattle.block.specs.declared.block.Block.{Block}
use Rattle.block.specs.declared.block.Previous.TheVariants.{Hash}
use Rattle.rules.specs.declared.answer.Refused.TheVariants.{OldVersion, WrongDataHash, WrongNumber}
use Rattle.rules.specs.declared.flag.Flag.{Flag}
use Rattle.rules.specs.declared.flag.Flag.TheVariants.{Valid, DuplicateTxId, InvalidConfigTransaction, EndorsementPolicyFailure, TargetChainNotFound}
use Rattle.rules.specs.State.{with_changes}
use Rattle.rules.specs.FirstUses.{with_uses}
use Rattle.rules.specs.Definitions.{with_definitions}
use Rattle.rules.specs.Candidate.{opened, updates}
use Rattle.rules.specs.Job.{Job}
use Rattle.rules.specs.Fold.{running, flags, definitions_to}
use Rattle.rules.specs.World.{World}
use Rattle.rules.specs.Linked.{IsUnlinked}
use Rattle.rules.specs.Commit.{job_of, commit_by, committed}
use Rattle.rules.specs.Answers.{definition_answer, first_use_answer}
use Rattle.rules.specs.declared.committed.CommittedBlock.{CommittedBlock}
use Rattle.rules.proofs.Keys.{bytes_ties}
use Rattle.rules.proofs.rows.Shared.{peer_of, either_peer, definitions_with, chaincode, zz, p0, q0, a0, writes_k, any, an_id, endorsed_by, broken_text}
use Rattle.rules.proofs.rows.Looks.{looks, uses}

abbrev new_text : List ℕ
new_text = codes "OR('Org2.peer')"

abbrev second_peer : Tree
second_peer = gate 1 (more (peer_of (codes "Org2")) none)

new_read : policy_at new_text ≡ Ok second_peer
unfolding policy_at expression_by gate_at gate_by members_by head_at opening_at separator_at front_at quoted_at principal_in word_at word_in
new_read = refl

-- the admin of Org1
abbrev admin : Tree
admin = gate 1 (more (principal (codes "Org1") wanted.Admin) none)

abbrev channel : Configuration
channel = record { name = codes "ch"; definitions = definitions_with either_peer; admin = Some admin }

abbrev without_admin : Configuration
without_admin = record { name = codes "ch"; definitions = definitions_with either_peer; admin = None }

abbrev kept_1 : CommittedBlock
kept_1 = record { bytes = []; header_hash = replicate 32 1; commit_hash = replicate 32 5; version = V1; flags = [] }

abbrev kept_2 : CommittedBlock
kept_2 = record { bytes = []; header_hash = replicate 32 2; commit_hash = replicate 32 6; version = V2; flags = Valid ∷ [] }

abbrev world_1 : World
world_1 = record { state = empty; history = empty; first_uses = empty; definitions = definitions_with either_peer; blocks = kept_1 ∷ [] }

abbrev update_id : List ℕ
update_id = tx_id_of (codes "n2") (identity_bytes a0)

abbrev update_of : List ℕ → List ℕ → List Identity → Update
update_of namespace text endorsers = record {
  channel = codes "ch";
  id = update_id;
  creator = a0;
  nonce = codes "n2";
  namespace = namespace;
  policy = text;
  endorsements = map (λ e. record { endorser = e; signature = [] }) endorsers;
  signature = [];
}

abbrev good : Update
good = update_of chaincode new_text (a0 ∷ [])

abbrev alone : Update → List (Option Item)
alone u = Some (item.Update u) ∷ []

ruleset updating = (new_read, uses)

-- ---- alone in its block

pub valid_alone : flags (job_of channel any world_1 (alone good)) ≡ Valid ∷ []
unfolding running with_changes
valid_alone = simp updating refl

abbrev world_2 : World
world_2 = committed channel any world_1 (alone good) kept_2

get-definition : (m : Policies) (x : List ℕ) (v : Tree) (q : List ℕ) → get (insert m x v) q ≡ cond (bytes_eq q x) (Some v) (get m q)
get-definition m x v q = get-insert nat_list_cmp_total m x v q ∙ ap (λ b. cond b (Some v) (get m q)) (bytes_ties q x)

ruleset redefining = (get-definition, updating)

-- the definition from the next block on
pub definition_behind_it : definition_answer world_2 chaincode ≡ Some new_text
unfolding running with_changes definitions_to with_definitions
definition_behind_it = simp redefining refl

-- and among what is hashed of its block
pub definition_is_committed : (commit_by V2 (job_of channel any world_1 (alone good))).definition ≡ Some (chaincode, second_peer)
unfolding running with_changes definitions_to
definition_is_committed = simp updating refl

pub definition_before_it : definition_answer world_1 chaincode ≡ Some (codes "OR('Org1.peer','Org2.peer')")
definition_before_it = simp looks refl

-- k written by a peer of Org1, then by one of Org2, with one nonce and creator, so in two blocks
abbrev writes_by : Identity → List (Option Item)
writes_by endorser = Some (item.Tx (endorsed_by (endorser ∷ []) writes_k)) ∷ []

-- given that the two ids differ
module _ (apart : bytes_eq an_id update_id ≡ false) where
  pub the_first_peer_may_not : flags (job_of channel any world_2 (writes_by p0)) ≡ EndorsementPolicyFailure ∷ []
  unfolding running with_changes definitions_to with_definitions with_uses
  the_first_peer_may_not = simp (apart, redefining) refl

  pub the_second_peer_may : flags (job_of channel any world_2 (writes_by q0)) ≡ Valid ∷ []
  unfolding running with_changes definitions_to with_definitions with_uses
  the_second_peer_may = simp (apart, redefining) refl

  -- ---- not alone

  abbrev before_another : List (Option Item)
  before_another = Some (item.Update good) ∷ Some (item.Tx (endorsed_by (p0 ∷ []) writes_k)) ∷ []

  pub not_alone : flags (job_of channel any world_1 before_another) ≡ InvalidConfigTransaction ∷ Valid ∷ []
  unfolding running with_changes
  not_alone = simp (apart, updating) refl

  pub not_alone_changes_no_definition : (committed channel any world_1 before_another kept_2).definitions ≡ world_1.definitions
  unfolding running with_changes definitions_to with_definitions
  not_alone_changes_no_definition = simp (apart, updating) refl

-- of another nonce
abbrev other_id : List ℕ
other_id = tx_id_of (codes "n3") (identity_bytes a0)

abbrev other : Update
other = record good { nonce = codes "n3"; id = other_id }

pub two_updates : bytes_eq other_id update_id ≡ false → flags (job_of channel any world_1 (Some (item.Update good) ∷ Some (item.Update other) ∷ [])) ≡ InvalidConfigTransaction ∷ InvalidConfigTransaction ∷ []
unfolding running with_changes
two_updates apart = simp (apart, updating) refl

pub two_of_one_id : flags (job_of channel any world_1 (Some (item.Update good) ∷ Some (item.Update good) ∷ [])) ≡ InvalidConfigTransaction ∷ DuplicateTxId ∷ []
unfolding running with_changes
two_of_one_id = simp updating refl

-- ---- what else is 6

abbrev flag_alone : Update → List Flag
flag_alone u = flags (job_of channel any world_1 (alone u))

pub endorsed_by_a_peer : flag_alone (update_of chaincode new_text (p0 ∷ [])) ≡ InvalidConfigTransaction ∷ []
unfolding running with_changes
endorsed_by_a_peer = simp updating refl

pub no_admin : flags (job_of without_admin any world_1 (alone good)) ≡ InvalidConfigTransaction ∷ []
unfolding running with_changes
no_admin = simp updating refl

pub undefined_chaincode : flag_alone (update_of zz new_text (a0 ∷ [])) ≡ InvalidConfigTransaction ∷ []
unfolding running with_changes
undefined_chaincode = simp updating refl

pub broken_policy : flag_alone (update_of chaincode broken_text (a0 ∷ [])) ≡ InvalidConfigTransaction ∷ []
unfolding running with_changes
broken_policy = simp updating refl

pub of_another_channel : flag_alone (record good { channel = codes "other" }) ≡ TargetChainNotFound ∷ []
unfolding running with_changes
of_another_channel = refl

-- its id used before goes before all of these
pub used_before : flags (job_of without_admin any world_2 (alone good)) ≡ DuplicateTxId ∷ []
unfolding running with_changes with_uses
used_before = simp updating refl

pub first_use : first_use_answer world_2 update_id ≡ Some (record { block = 1; place = 0; flag = Valid })
unfolding running with_changes with_uses
first_use = simp updating refl

-- one that is refused changes nothing but the first uses
pub refused_changes_no_definition : (committed channel any world_1 (alone (update_of chaincode new_text (p0 ∷ []))) kept_2).definitions ≡ world_1.definitions
unfolding running with_changes definitions_to with_definitions
refused_changes_no_definition = simp updating refl

pub no_history : (committed channel any world_1 (alone good) kept_2).state ≡ world_1.state
unfolding running with_changes
no_history = simp updating refl

-- an update governs no later candidate of its block, even where one could stand beside it
abbrev beside_another : Job
beside_another = record {
  number = 1;
  state = empty;
  definitions = definitions_with either_peer;
  admin = Some admin;
  candidates = updates good (a0 ∷ []) ∷ opened (endorsed_by (p0 ∷ []) writes_k) (p0 ∷ []) ∷ [];
}

pub governs_no_later_candidate : flags beside_another ≡ Valid ∷ Valid ∷ []
unfolding running with_changes
governs_no_later_candidate = simp updating refl

-- ---- versions

-- the bytes of an update spell nothing in version 1
pub no_update_in_version_1 : item_of V1 (0 ∷ []) ≡ None
unfolding name_at body_at tx_at whole_tx_at
no_update_in_version_1 = refl

abbrev at_version_2 : World
at_version_2 = record { state = empty; history = empty; first_uses = empty; definitions = definitions_with either_peer; blocks = kept_1 ∷ kept_2 ∷ [] }

abbrev old_block : ℕ → List ℕ → Block
old_block n data_hash = record { version = V1; header = record { number = n; previous = Hash (replicate 32 2); data_hash = data_hash }; txs = [] }

pub version_1_behind_2 : IsUnlinked at_version_2 (old_block 2 (data_hash_of [])) OldVersion
version_1_behind_2 = (refl, refl, refl, refl)

pub data_hash_goes_before : (data_hash : List ℕ) → (data_hash ≡ data_hash_of [] → ⊥) → IsUnlinked at_version_2 (old_block 2 data_hash) WrongDataHash
data_hash_goes_before data_hash wrong = (refl, refl, wrong)

pub number_goes_before : IsUnlinked at_version_2 (old_block 3 (data_hash_of [])) (WrongNumber 2 3)
number_goes_before = ((λ e. absurd (omega arith)), refl, refl)
