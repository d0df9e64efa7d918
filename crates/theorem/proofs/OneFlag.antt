-- The flag of one item: the first test that it fails gives that of its candidate.
use Rattle.std.proofs.Common.{◌≡◌, ℕ, Bool, true, false, not, List, [], ◌∷◌, ◌++◌, map, Option, Some, None, refl, ap}
use Rattle.std.specs.Prelude.{◌&&◌, if◌then◌else◌, is_none}
use Rattle.std.specs.Str.{bytes_eq}
use Rattle.std.specs.FinMap.{contains_key}
use Rattle.transaction.specs.declared.transaction.Tx.{Tx}
use Rattle.transaction.specs.declared.update.Update.{Update}
use Rattle.transaction.specs.declared.item.Item.{Item}
use Rattle.transaction.specs.declared.item.Item.TheVariants as item
use Rattle.transaction.specs.Grammar.{identity_bytes}
use Rattle.header_hash.specs.Hashes.{tx_id_of}
use Rattle.policy_eval.specs.Accepts.{Accepts}
use Rattle.policy_eval.specs.Signers.{signers_of}
use Rattle.policy_eval.specs.UpdateSigners.{update_signers_of}
use Rattle.channel.specs.Configuration.{Configuration}
use Rattle.rules.specs.declared.early_flag.EarlyFlag.{EarlyFlag}
use Rattle.rules.specs.declared.early_flag.EarlyFlag.TheVariants as early
use Rattle.rules.specs.declared.flag.Flag.{Flag}
use Rattle.rules.specs.declared.flag.Flag.TheVariants.{EndorsementPolicyFailure, InvalidConfigTransaction}
use Rattle.rules.specs.declared.read_verdict.ReadVerdict.{ReadVerdict}
use Rattle.rules.specs.declared.read_verdict.ReadVerdict.TheVariants.{Good, Stale, Phantom}
use Rattle.rules.specs.Flags.{flag_of, is_valid}
use Rattle.rules.specs.ReadWriteSets.{is_in_form}
use Rattle.rules.specs.Endorsement.{is_endorsed, meets}
use Rattle.rules.specs.Reads.{read_verdict}
use Rattle.rules.specs.FirstUses.{FirstUses}
use Rattle.rules.specs.Candidate as candidate
use Rattle.rules.specs.Candidate.{Candidate, opened, updates, origin_of, origin_fault, is_all_defined, content_fault, flagged_or, open_of, candidate_of, used_id, is_used}
use Rattle.rules.specs.Job.{read_flag, open_flag, flag_by, endorsement_by, reads_by}
use Rattle.theorem.specs.Serial.{Setting, SoFar, Tests, first_failed, all_pass, origin_tests, endorsement_tests, read_tests, tests_before_reads, tests}

abbrev as_tests : List (Bool × EarlyFlag) → Tests
as_tests ts = map (λ t. (t.0, flag_of t.1)) ts

-- the channel with the policies before the block
abbrev pub channel_of : Setting → Configuration
channel_of s = record { name = s.channel_name; definitions = s.policies_before; admin = s.admin }

pub never_valid : (f : EarlyFlag) → is_valid (flag_of f) ≡ false
never_valid early.BadPayload = refl
never_valid early.TargetChainNotFound = refl
never_valid early.BadCreatorSignature = refl
never_valid early.BadProposalTxId = refl
never_valid early.DuplicateTxId = refl
never_valid early.InvalidConfigTransaction = refl
never_valid early.BadRwset = refl
never_valid early.InvalidChaincode = refl

none_failed : (ts : List (Bool × EarlyFlag)) → all_pass (as_tests ts) ≡ is_none (candidate.first_failed ts)
none_failed [] = refl
none_failed (t ∷ ts) = by t.0 (none_failed ts)
  where
    by : (b : Bool) → all_pass (as_tests ts) ≡ is_none (candidate.first_failed ts) → (b && all_pass (as_tests ts)) ≡ is_none (if b then candidate.first_failed ts else Some t.1)
    by true h = h
    by false h = refl

-- ---- endorsement and reads

open_tx : (e : Bool) (v : ReadVerdict) → first_failed ((e, EndorsementPolicyFailure) ∷ (is_valid (read_flag v), read_flag v) ∷ []) ≡ open_flag EndorsementPolicyFailure e v
open_tx false v = refl
open_tx true Good = refl
open_tx true Stale = refl
open_tx true Phantom = refl

open_update : (e : Bool) → first_failed ((e, InvalidConfigTransaction) ∷ []) ≡ open_flag InvalidConfigTransaction e Good
open_update false = refl
open_update true = refl

one_test : (e : Bool) → (e && true) ≡ e
one_test false = refl
one_test true = refl

-- ---- the tests of an item, as its candidate has them

abbrev own_origin_tests : Configuration → Accepts → Item → List (Bool × EarlyFlag)
own_origin_tests channel accepts i =
    (bytes_eq (origin_of i).channel channel.name, early.TargetChainNotFound)
    ∷ (accepts (origin_of i).creator (origin_of i).message (origin_of i).signature, early.BadCreatorSignature)
    ∷ (bytes_eq (origin_of i).id (tx_id_of (origin_of i).nonce (identity_bytes (origin_of i).creator)), early.BadProposalTxId)
    ∷ []

abbrev tx_tests : Configuration → Bool → Tx → List (Bool × EarlyFlag)
tx_tests channel used tx = (not used, early.DuplicateTxId) ∷ (is_in_form tx, early.BadRwset) ∷ (is_all_defined channel.definitions tx, early.InvalidChaincode) ∷ []

abbrev update_tests : Configuration → Bool → Bool → Update → List (Bool × EarlyFlag)
update_tests channel alone used u = (not used, early.DuplicateTxId) ∷ (candidate.may_update channel alone u, early.InvalidConfigTransaction) ∷ []

-- ---- one item

module _ (s : Setting) (now : SoFar) where
  -- the flag of a candidate, and whether it is endorsed
  abbrev pub endorsed : Candidate → Bool
  endorsed c = endorsement_by s.admin s.policies_before s.state_before now.policy_written c

  abbrev pub here : Candidate → Flag
  here c = flag_by c (endorsed c) (reads_by now.state c)

  -- tests before others
  before : (ts : List (Bool × EarlyFlag)) (rest : Tests) (c : Candidate)
      → first_failed rest ≡ here c → first_failed (as_tests ts ++ rest) ≡ here (flagged_or (candidate.first_failed ts) c)
  before [] rest c same = same
  before (t ∷ ts) rest c same = by t.0 (before ts rest c same)
    where
      by : (b : Bool) → first_failed (as_tests ts ++ rest) ≡ here (flagged_or (candidate.first_failed ts) c)
          → (if b then first_failed (as_tests ts ++ rest) else flag_of t.1) ≡ here (flagged_or (if b then candidate.first_failed ts else Some t.1) c)
      by true h = h
      by false h = refl

  passing : (ts : List (Bool × EarlyFlag)) (rest : Tests) (c : Candidate)
      → all_pass rest ≡ endorsed c → all_pass (as_tests ts ++ rest) ≡ endorsed (flagged_or (candidate.first_failed ts) c)
  passing [] rest c same = same
  passing (t ∷ ts) rest c same = by t.0 (passing ts rest c same)
    where
      by : (b : Bool) → all_pass (as_tests ts ++ rest) ≡ endorsed (flagged_or (candidate.first_failed ts) c)
          → (b && all_pass (as_tests ts ++ rest)) ≡ endorsed (flagged_or (if b then candidate.first_failed ts else Some t.1) c)
      by true h = h
      by false h = refl

  -- what the item is, if its id was used so
  abbrev pub own : Item → Candidate
  own i = candidate_of (channel_of s) s.accepts s.alone (contains_key now.first_uses (origin_of i).id) (Some i)

  pub flag_same : (i : Item) → first_failed (tests s now i) ≡ here (own i)
  flag_same (item.Tx tx) =
      let used = contains_key now.first_uses tx.id in
      let rest = endorsement_tests s now (item.Tx tx) ++ read_tests now (item.Tx tx) in
      before (own_origin_tests (channel_of s) s.accepts (item.Tx tx)) (as_tests (tx_tests (channel_of s) used tx) ++ rest) (flagged_or (content_fault (channel_of s) s.alone used (item.Tx tx)) (opened tx (signers_of s.accepts tx)))
      (before (tx_tests (channel_of s) used tx) rest (opened tx (signers_of s.accepts tx))
      (open_tx (is_endorsed s.policies_before s.state_before now.policy_written tx (signers_of s.accepts tx)) (read_verdict now.state tx)))
  flag_same (item.Update u) =
      let used = contains_key now.first_uses u.id in
      let rest = endorsement_tests s now (item.Update u) in
      before (own_origin_tests (channel_of s) s.accepts (item.Update u)) (as_tests (update_tests (channel_of s) s.alone used u) ++ rest) (flagged_or (content_fault (channel_of s) s.alone used (item.Update u)) (updates u (update_signers_of s.accepts u)))
      (before (update_tests (channel_of s) s.alone used u) rest (updates u (update_signers_of s.accepts u))
      (open_update (meets (update_signers_of s.accepts u) s.admin)))

  pub endorsed_same : (i : Item) → all_pass (tests_before_reads s now i) ≡ endorsed (own i)
  endorsed_same (item.Tx tx) =
      let used = contains_key now.first_uses tx.id in
      let rest = endorsement_tests s now (item.Tx tx) in
      passing (own_origin_tests (channel_of s) s.accepts (item.Tx tx)) (as_tests (tx_tests (channel_of s) used tx) ++ rest) (flagged_or (content_fault (channel_of s) s.alone used (item.Tx tx)) (opened tx (signers_of s.accepts tx)))
      (passing (tx_tests (channel_of s) used tx) rest (opened tx (signers_of s.accepts tx))
      (one_test (is_endorsed s.policies_before s.state_before now.policy_written tx (signers_of s.accepts tx))))
  endorsed_same (item.Update u) =
      let used = contains_key now.first_uses u.id in
      let rest = endorsement_tests s now (item.Update u) in
      passing (own_origin_tests (channel_of s) s.accepts (item.Update u)) (as_tests (update_tests (channel_of s) s.alone used u) ++ rest) (flagged_or (content_fault (channel_of s) s.alone used (item.Update u)) (updates u (update_signers_of s.accepts u)))
      (passing (update_tests (channel_of s) s.alone used u) rest (updates u (update_signers_of s.accepts u))
      (one_test (meets (update_signers_of s.accepts u) s.admin)))

pub origin_same : (s : Setting) (i : Item) → all_pass (origin_tests s i) ≡ is_none (origin_fault (channel_of s) s.accepts i)
origin_same s i = none_failed (own_origin_tests (channel_of s) s.accepts i)

-- whether an id was used matters only if the origin isn't at fault
pub candidate_same : (channel : Configuration) (accepts : Accepts) (alone : Bool) (uses : FirstUses) (earlier : List (List ℕ)) (used : Bool) (i : Item)
    → is_used uses earlier (Some (origin_of i).id) ≡ used
    → candidate_of channel accepts alone (is_used uses earlier (used_id channel accepts (Some i))) (Some i) ≡ candidate_of channel accepts alone used (Some i)
candidate_same channel accepts alone uses earlier used i same = by (origin_fault channel accepts i)
  where
    by : (o : Option EarlyFlag)
        → flagged_or o (flagged_or (content_fault channel alone (is_used uses earlier (if is_none o then Some (origin_of i).id else None)) i) (open_of accepts i))
        ≡ flagged_or o (flagged_or (content_fault channel alone used i) (open_of accepts i))
    by (Some f) = refl
    by None = ap (λ (b : Bool). flagged_or (content_fault channel alone b i) (open_of accepts i)) same
