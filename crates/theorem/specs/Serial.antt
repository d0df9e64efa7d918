-- One block, executed serially. Its items are transactions and updates, and are taken in order. An item gets the flag
-- of the first test that it fails; if it fails none it is valid, and applied before the next one is taken. Flags are
-- those of Fabric's `peer.TxValidationCode`. The order of the tests is ours: that of the table 'Flags' in
-- docs/behaviour.md.
use Rattle.std.specs.Prelude.{ℕ, suc, List, [], ◌∷◌, ◌++◌, ◌==◌, length, map, Bool, true, not, ◌&&◌, if◌then◌else◌, Option, Some, None, is_some}
use Rattle.std.specs.Str.{bytes_eq}
use Rattle.std.specs.FinMap.{contains_key, insert}
use Rattle.block.specs.declared.block.Block.{Block}
use Rattle.transaction.specs.declared.item.Item.{Item}
use Rattle.transaction.specs.declared.item.Item.TheVariants as item
use Rattle.transaction.specs.declared.transaction.Version.{Version}
use Rattle.transaction.specs.declared.update.Update.{Update}
use Rattle.transaction.specs.Grammar.{identity_bytes}
use Rattle.transaction.specs.Items.{item_of}
use Rattle.header_hash.specs.Hashes.{tx_id_of}
use Rattle.policy.specs.Meaning.{policy_of}
use Rattle.policy.specs.Policies.{Policies}
use Rattle.policy.specs.Tree.{Tree}
use Rattle.policy_eval.specs.Accepts.{Accepts}
use Rattle.policy_eval.specs.Signers.{signers_of}
use Rattle.policy_eval.specs.UpdateSigners.{update_signers_of}
use Rattle.channel.specs.Configuration.{Configuration}
use Rattle.rules.specs.declared.first_use.FirstUse.{FirstUse}
use Rattle.rules.specs.declared.flag.Flag.{Flag}
use Rattle.rules.specs.declared.flag.Flag.TheVariants.{Valid, BadPayload, BadCreatorSignature, InvalidConfigTransaction, BadProposalTxId, DuplicateTxId, EndorsementPolicyFailure, TargetChainNotFound, BadRwset, InvalidChaincode}
use Rattle.rules.specs.Flags.{is_valid}
use Rattle.rules.specs.State.{StateKey, State}
use Rattle.rules.specs.Effect.{policy_keys, effect}
use Rattle.rules.specs.History.{History, with_entries, entries_of}
use Rattle.rules.specs.FirstUses.{FirstUses}
use Rattle.rules.specs.ReadWriteSets.{is_in_form}
use Rattle.rules.specs.Reads.{read_verdict}
use Rattle.rules.specs.Endorsement.{is_endorsed, meets}
use Rattle.rules.specs.Candidate.{origin_of, is_defined, is_all_defined}
use Rattle.rules.specs.Job.{read_flag}
use Rattle.rules.specs.World.{World, height_of}

-- what is the same for all items of a block
pub record Setting : Type 0 where
  pub channel_name : List ℕ
  -- the policy that updates need, if the channel has one
  pub admin : Option Tree
  -- whether the verifier accepts an identity's signature of a message
  pub accepts : Accepts
  -- the number of the block
  pub number : ℕ
  -- whether the block has one place only
  pub alone : Bool
  -- the state before the block, with the policies of keys
  pub state_before : State
  -- the policies of chaincodes before the block
  pub policies_before : Policies

-- what the items taken so far have led to; below it is called `now`
pub record SoFar : Type 0 where
  -- one for each of them
  pub flags : List Flag
  pub state : State
  pub history : History
  -- the block, place and flag of the first use of each id
  pub first_uses : FirstUses
  -- the policies of chaincodes after the block
  pub policies : Policies
  -- the chaincode whose policy a valid update replaces, and its new policy
  pub replaced : Option (List ℕ × Tree)
  -- the keys whose policies were written, or removed, in this block
  pub policy_written : List StateKey

-- ---- tests

-- tests in order, each with the flag of items that fail it
abbrev pub Tests : Type 0
Tests = List (Bool × Flag)

abbrev pub first_failed : Tests → Flag
first_failed [] = Valid
first_failed (t ∷ ts) = if t.0 then first_failed ts else t.1

abbrev pub all_pass : Tests → Bool
all_pass [] = true
all_pass (t ∷ ts) = t.0 && all_pass ts

-- Origin, flags 14, 4, 8: it is of this channel, its creator signed it, and its id is the hash of its nonce and
-- creator.
abbrev pub origin_tests : Setting → Item → Tests
origin_tests s i =
    let o = origin_of i in
    (bytes_eq o.channel s.channel_name, TargetChainNotFound)
    ∷ (s.accepts o.creator o.message o.signature, BadCreatorSignature)
    ∷ (bytes_eq o.id (tx_id_of o.nonce (identity_bytes o.creator)), BadProposalTxId)
    ∷ []

-- An update is allowed if it is alone in its block, the channel has an admin policy, the chaincode has a
-- policy, and the new text is a policy (ours).
abbrev pub may_update : Setting → Update → Bool
may_update s u = s.alone && is_some s.admin && is_defined s.policies_before u.namespace && is_some (policy_of u.policy)

-- Content, flags 9, then 22 and 25 or, of an update, 6: its id is new. The read and write sets of a transaction are
-- well-formed: no key repeats within one of their lists ('Read-Write set semantics'), ranges are in order, and written
-- policies are policies. The chaincode that it invokes and those that it writes have policies.
abbrev pub content_tests : Setting → SoFar → Item → Tests
content_tests s now (item.Tx tx) =
    (not (contains_key now.first_uses tx.id), DuplicateTxId)
    ∷ (is_in_form tx, BadRwset)
    ∷ (is_all_defined s.policies_before tx, InvalidChaincode)
    ∷ []
content_tests s now (item.Update u) =
    (not (contains_key now.first_uses u.id), DuplicateTxId)
    ∷ (may_update s u, InvalidConfigTransaction)
    ∷ []

-- Endorsement, flag 10 or, of an update, 6: its signers satisfy the policies before the block, the keys' own or else
-- those of chaincodes (EuroSys 2018 paper; 'Endorsement policies'), and it writes no key whose policy the block has
-- written (ours).
abbrev pub endorsement_tests : Setting → SoFar → Item → Tests
endorsement_tests s now (item.Tx tx) =
    (is_endorsed s.policies_before s.state_before now.policy_written tx (signers_of s.accepts tx), EndorsementPolicyFailure) ∷ []
endorsement_tests s now (item.Update u) = (meets (update_signers_of s.accepts u) s.admin, InvalidConfigTransaction) ∷ []

-- Reads: what it read is what the state has now, with the valid items before ('Read-Write set semantics'; paper,
-- section 3.4). Otherwise the flag is 11 for a key or 12 for a range, whichever differs first.
abbrev pub read_tests : SoFar → Item → Tests
read_tests now (item.Tx tx) =
    let flag = read_flag (read_verdict now.state tx) in
    (is_valid flag, flag) ∷ []
read_tests now (item.Update u) = []

-- those before the reads
abbrev pub tests_before_reads : Setting → SoFar → Item → Tests
tests_before_reads s now i = origin_tests s i ++ content_tests s now i ++ endorsement_tests s now i

-- all tests, in order
abbrev pub tests : Setting → SoFar → Item → Tests
tests s now i = tests_before_reads s now i ++ read_tests now i

-- ---- effects

-- a chaincode's policy is replaced, from the next block on
abbrev pub with_policy : SoFar → List ℕ → Option Tree → SoFar
with_policy now chaincode None = now
with_policy now chaincode (Some policy) = record now { policies = insert now.policies chaincode policy; replaced = Some (chaincode, policy) }

-- What a valid item changes: a transaction rows and histories ('Read-Write set semantics'), an update a policy.
abbrev pub applied : Version → Item → SoFar → SoFar
applied v (item.Tx tx) now = record now { state = effect v tx now.state; history = with_entries now.history (entries_of v tx) }
applied v (item.Update u) now = with_policy now u.namespace (policy_of u.policy)

-- the first use of an id stays
abbrev pub with_use : FirstUses → List ℕ → FirstUse → FirstUses
with_use uses id u = if contains_key uses id then uses else insert uses id u

-- the keys whose policies an item writes
abbrev pub policy_keys_of : Item → List StateKey
policy_keys_of (item.Tx tx) = policy_keys tx
policy_keys_of (item.Update u) = []

-- ---- one item

-- If the bytes encode no item, the flag is 2, and nothing else changes. An item gets its flag, and is applied if it is
-- valid. Its id counts as used from now on if it passes the tests of its origin, also if it is invalid (ours).
abbrev pub taken : Setting → ℕ → SoFar → Option Item → SoFar
taken s place now None = record now { flags = now.flags ++ BadPayload ∷ [] }
taken s place now (Some i) =
    let flag = first_failed (tests s now i) in
    let after = if is_valid flag then applied (record { block = s.number; tx = place }) i now else now in
    record after {
      flags = now.flags ++ flag ∷ [];
      first_uses =
          if all_pass (origin_tests s i)
          then with_use now.first_uses (origin_of i).id (record { block = s.number; place = place; flag = flag })
          else now.first_uses;
      -- No later transaction of this block may write these keys, even if this one fails on its reads.
      policy_written = if all_pass (tests_before_reads s now i) then now.policy_written ++ policy_keys_of i else now.policy_written;
    }

-- the items from a place on, one after the other
unfoldable pub all_taken : Setting → ℕ → SoFar → List (Option Item) → SoFar
all_taken s place now [] = now
all_taken s place now (i ∷ items) = all_taken s (suc place) (taken s place now i) items

-- ---- one block

abbrev pub setting_of : Configuration → Accepts → World → List (Option Item) → Setting
setting_of channel accepts w items = record {
  channel_name = channel.name;
  admin = channel.admin;
  accepts = accepts;
  number = height_of w;
  alone = length items == 1;
  state_before = w.state;
  policies_before = w.definitions;
}

-- before the first item
abbrev pub at_first : World → SoFar
at_first w = record {
  flags = [];
  state = w.state;
  history = w.history;
  first_uses = w.first_uses;
  policies = w.definitions;
  replaced = None;
  policy_written = [];
}

-- after all items of a block, over the ledger before it
abbrev pub after_items : Configuration → Accepts → World → List (Option Item) → SoFar
after_items channel accepts w items = all_taken (setting_of channel accepts w items) 0 (at_first w) items

-- after a block; only blocks of version 2 have updates
abbrev pub after_block : Configuration → Accepts → World → Block → SoFar
after_block channel accepts w b = after_items channel accepts w (map (item_of b.version) b.txs)
