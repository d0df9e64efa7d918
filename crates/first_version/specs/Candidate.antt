-- Candidates: what each transaction of a block is before the rules on the state.
use Rattle.std.specs.Prelude.{ℕ, List, [], ◌∷◌, ◌++◌, Bool, not, if◌then◌else◌, Option, Some, None, is_none, option_to_list}
use Rattle.std.specs.Str.{bytes_eq}
use Rattle.transaction.specs.declared.identity.Identity.{Identity}
use Rattle.transaction.specs.declared.transaction.Tx.{Tx}
use Rattle.transaction.specs.Grammar.{identity_bytes, signed_bytes}
use Rattle.header_hash.specs.Hashes.{tx_id_of}
use Rattle.policy_eval.specs.Accepts.{Accepts}
use Rattle.policy_eval.specs.Signers.{signers_of}
use Rattle.first_version.specs.Configuration.{Configuration}
use Rattle.rules.specs.declared.early_flag.EarlyFlag.{EarlyFlag}
use Rattle.rules.specs.declared.early_flag.EarlyFlag.TheVariants.{BadPayload, TargetChainNotFound, BadCreatorSignature, BadProposalTxId, DuplicateTxId, BadRwset, InvalidChaincode}
use Rattle.rules.specs.ReadWriteSets.{is_in_form}
use Rattle.rules.specs.FirstUses.{FirstUses}
use Rattle.rules.specs.Candidate.{first_failed, is_all_defined, is_used}

-- flagged before the rules on the state, or open with its signers
pub data Candidate : Type 0 where
  flagged : EarlyFlag → Candidate
  opened : Tx → List Identity → Candidate

-- Its origin: its channel, its creator's signature over all bytes before it, its id. A fault here leaves the id unused.
abbrev pub origin_fault : Configuration → Accepts → Tx → Option EarlyFlag
origin_fault channel accepts tx = first_failed (
    (bytes_eq tx.channel channel.name, TargetChainNotFound)
    ∷ (accepts tx.creator (signed_bytes tx) tx.signature, BadCreatorSignature)
    ∷ (bytes_eq tx.id (tx_id_of tx.nonce (identity_bytes tx.creator)), BadProposalTxId)
    ∷ [])

-- its content: an id that is new, well-formed read and write sets, chaincodes that are defined
abbrev pub content_fault : Configuration → Bool → Tx → Option EarlyFlag
content_fault channel used tx = first_failed (
    (not used, DuplicateTxId)
    ∷ (is_in_form tx, BadRwset)
    ∷ (is_all_defined channel.definitions tx, InvalidChaincode)
    ∷ [])

abbrev pub flagged_or : Option EarlyFlag → Candidate → Candidate
flagged_or (Some flag) c = flagged flag
flagged_or None c = c

-- The candidate of a place, whose bytes encode this transaction or, at None, no transaction; used states whether its id
-- was used before. The first test that fails gives the flag.
abbrev pub candidate_of : Configuration → Accepts → Bool → Option Tx → Candidate
candidate_of channel accepts used None = flagged BadPayload
candidate_of channel accepts used (Some tx) =
    flagged_or (origin_fault channel accepts tx) (flagged_or (content_fault channel used tx) (opened tx (signers_of accepts tx)))

-- ---- used ids

-- the id that a transaction uses: its own, unless its origin has a fault
abbrev pub used_id : Configuration → Accepts → Option Tx → Option (List ℕ)
used_id channel accepts None = None
used_id channel accepts (Some tx) = if is_none (origin_fault channel accepts tx) then Some tx.id else None

-- the candidates of a block's transactions in order; earlier has the ids that the places before these use
abbrev pub candidates_from : Configuration → Accepts → FirstUses → List (List ℕ) → List (Option Tx) → List Candidate
candidates_from channel accepts uses earlier [] = []
candidates_from channel accepts uses earlier (tx ∷ txs) =
    let id = used_id channel accepts tx in
    candidate_of channel accepts (is_used uses earlier id) tx ∷ candidates_from channel accepts uses (earlier ++ option_to_list id) txs
