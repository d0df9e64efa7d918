-- Candidates: what each transaction of a block is before the rules on the state are asked.
use Rattle.std.specs.Prelude.{ℕ, List, [], ◌∷◌, ◌++◌, Bool, not, ◌&&◌, ◌||◌, if◌then◌else◌, Option, Some, None, is_some, is_none, option_to_list}
use Rattle.std.specs.Str.{bytes_eq}
use Rattle.std.specs.List.{list_any, list_all}
use Rattle.std.specs.FinMap.{get, contains_key}
use Rattle.transaction.specs.declared.identity.Identity.{Identity}
use Rattle.transaction.specs.declared.transaction.Tx.{Tx}
use Rattle.transaction.specs.declared.update.Update.{Update}
use Rattle.transaction.specs.declared.item.Item.{Item}
use Rattle.transaction.specs.declared.item.Item.TheVariants as item
use Rattle.transaction.specs.Grammar.{identity_bytes, signed_bytes}
use Rattle.transaction.specs.UpdateGrammar.{update_signed_bytes}
use Rattle.header_hash.specs.Hashes.{tx_id_of}
use Rattle.policy.specs.Meaning.{policy_of}
use Rattle.policy.specs.Policies.{Policies}
use Rattle.policy_eval.specs.Accepts.{Accepts}
use Rattle.policy_eval.specs.Signers.{signers_of}
use Rattle.policy_eval.specs.UpdateSigners.{update_signers_of}
use Rattle.channel.specs.Configuration.{Configuration}
use Rattle.rules.specs.declared.early_flag.EarlyFlag.{EarlyFlag}
use Rattle.rules.specs.declared.early_flag.EarlyFlag.TheVariants.{BadPayload, TargetChainNotFound, BadCreatorSignature, BadProposalTxId, DuplicateTxId, InvalidConfigTransaction, BadRwset, InvalidChaincode}
use Rattle.rules.specs.Effect.{written_keys}
use Rattle.rules.specs.ReadWriteSets.{is_in_form}
use Rattle.rules.specs.FirstUses.{FirstUses}

-- flagged before the rules on the state, or an open transaction or an open update with its signers
pub data Candidate : Type 0 where
  flagged : EarlyFlag → Candidate
  opened : Tx → List Identity → Candidate
  updates : Update → List Identity → Candidate

-- the flag of the first test that fails
abbrev pub first_failed : List (Bool × EarlyFlag) → Option EarlyFlag
first_failed [] = None
first_failed (t ∷ ts) = if t.0 then first_failed ts else Some t.1

-- what an item says of where it comes from
pub record Origin : Type 0 where
  pub channel : List ℕ
  pub id : List ℕ
  pub creator : Identity
  pub nonce : List ℕ
  -- all bytes before the creator's signature
  pub message : List ℕ
  pub signature : List ℕ

abbrev pub origin_of : Item → Origin
origin_of (item.Tx tx) = record { channel = tx.channel; id = tx.id; creator = tx.creator; nonce = tx.nonce; message = signed_bytes tx; signature = tx.signature }
origin_of (item.Update u) = record { channel = u.channel; id = u.id; creator = u.creator; nonce = u.nonce; message = update_signed_bytes u; signature = u.signature }

abbrev pub fault_of_origin : Configuration → Accepts → Origin → Option EarlyFlag
fault_of_origin channel accepts o = first_failed (
    (bytes_eq o.channel channel.name, TargetChainNotFound)
    ∷ (accepts o.creator o.message o.signature, BadCreatorSignature)
    ∷ (bytes_eq o.id (tx_id_of o.nonce (identity_bytes o.creator)), BadProposalTxId)
    ∷ [])

-- Where it comes from: its channel, its creator's signature over all bytes before it, its id. A fault here leaves the id
-- unused.
abbrev pub origin_fault : Configuration → Accepts → Item → Option EarlyFlag
origin_fault channel accepts i = fault_of_origin channel accepts (origin_of i)

abbrev pub is_defined : Policies → List ℕ → Bool
is_defined definitions namespace = is_some (get definitions namespace)

-- the named chaincode, and each namespace with writes, has a definition
abbrev pub is_all_defined : Policies → Tx → Bool
is_all_defined definitions tx = is_defined definitions tx.chaincode && list_all (λ k. is_defined definitions k.0) (written_keys tx)

-- it is the only item of its block, the channel has an admin policy, the chaincode has a policy, and the text spells one
abbrev pub may_update : Configuration → Bool → Update → Bool
may_update channel alone u = alone && is_some channel.admin && is_defined channel.definitions u.namespace && is_some (policy_of u.policy)

-- What it says: an id that is new; of a transaction read and write sets in form, and chaincodes that are defined; of an update
-- that it may be asked for.
abbrev pub content_fault : Configuration → Bool → Bool → Item → Option EarlyFlag
content_fault channel alone used (item.Update u) = first_failed (
    (not used, DuplicateTxId)
    ∷ (may_update channel alone u, InvalidConfigTransaction)
    ∷ [])
content_fault channel alone used (item.Tx tx) = first_failed (
    (not used, DuplicateTxId)
    ∷ (is_in_form tx, BadRwset)
    ∷ (is_all_defined channel.definitions tx, InvalidChaincode)
    ∷ [])

abbrev pub flagged_or : Option EarlyFlag → Candidate → Candidate
flagged_or (Some flag) c = flagged flag
flagged_or None c = c

abbrev pub open_of : Accepts → Item → Candidate
open_of accepts (item.Tx tx) = opened tx (signers_of accepts tx)
open_of accepts (item.Update u) = updates u (update_signers_of accepts u)

-- The candidate of a place, whose bytes spell this item or, at None, none; alone says whether it is the only place of its
-- block, used whether its id was used before. The first test that fails gives the flag.
abbrev pub candidate_of : Configuration → Accepts → Bool → Bool → Option Item → Candidate
candidate_of channel accepts alone used None = flagged BadPayload
candidate_of channel accepts alone used (Some i) =
    flagged_or (origin_fault channel accepts i) (flagged_or (content_fault channel alone used i) (open_of accepts i))

-- ---- used ids

-- the id that an item uses: its own, unless there is a fault in where it comes from
abbrev pub used_id : Configuration → Accepts → Option Item → Option (List ℕ)
used_id channel accepts None = None
used_id channel accepts (Some i) = if is_none (origin_fault channel accepts i) then Some (origin_of i).id else None

-- used in an accepted block, or at an earlier place of this one
abbrev pub is_used : FirstUses → List (List ℕ) → Option (List ℕ) → Bool
is_used uses earlier id = list_any (λ x. contains_key uses x || list_any (bytes_eq x) earlier) (option_to_list id)

-- the candidates of a block's items in order; earlier has the ids that the places before these use
abbrev pub candidates_from : Configuration → Accepts → Bool → FirstUses → List (List ℕ) → List (Option Item) → List Candidate
candidates_from channel accepts alone uses earlier [] = []
candidates_from channel accepts alone uses earlier (i ∷ items) =
    let id = used_id channel accepts i in
    candidate_of channel accepts alone (is_used uses earlier id) i ∷ candidates_from channel accepts alone uses (earlier ++ option_to_list id) items
