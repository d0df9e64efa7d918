-- The results of workers may go to another thread. As in the rules, the proof goes field by field.
use denote.Ref.{NamedLft}
use denote.Param.Send.{IsSend, IsSync, struct_send, recorded_send}
use denote.Struct.Declared.{shape}
use Rattle.values.proofs.lent.Slice.TheSendSync as slice
use Rattle.values.proofs.lent.NameRef.TheSendSync as name_ref
use Rattle.values.proofs.lent.KeyRef.TheSendSync as key_ref
use Rattle.transaction.proofs.identity.Identity.TheSendSync as identity
use Rattle.transaction.proofs.transaction.Tx.TheSendSync as tx
use Rattle.transaction.proofs.update.Update.TheSendSync as update
use Rattle.policy_eval.proofs.signer_list.Signers.TheSendSync as signers
use Rattle.channel.specs.contracts.configuration.Configuration as configuration
use Rattle.rules.proofs.Crossing as rules
use Rattle.rules.proofs.Crossing.{policy_send, policy_sync, definitions_sync}
use Rattle.state_keys.proofs.state_key.StateKey.TheSendSync as state_key
use Rattle.candidates.specs.contracts.candidate.Candidate as candidate
use Rattle.intake.specs.contracts.taking.Taken as taken
use Rattle.intake_workers.specs.contracts.taken_part.TakenPart as part

pub ruleset crossing = (
  rules.crossing,
  slice.the_send,
  slice.the_sync,
  name_ref.the_send,
  name_ref.the_sync,
  key_ref.the_send,
  key_ref.the_sync,
  identity.the_send,
  identity.the_sync,
  tx.the_send,
  tx.the_sync,
  update.the_send,
  update.the_sync,
  signers.the_send,
  signers.the_sync,
  state_key.the_send,
  state_key.the_sync,
)

pub configuration_sync : IsSync configuration.the_row
configuration_sync = search (crossing, policy_sync, definitions_sync) depth 40 fits 100000

pub candidate_send : (ℓ : NamedLft) → IsSend (candidate.the_field ℓ).row
candidate_send ℓ = search (crossing, policy_send, policy_sync) depth 40 fits 100000

pub taken_send : (ℓ : NamedLft) → IsSend (taken.the_row ℓ)
taken_send ℓ = recorded_send _ _ _ ((taken.the_type ℓ).to_one) (struct_send (shape (taken.the_type ℓ)) (
  search crossing depth 20,
  (candidate_send ℓ, tt),
))

pub part_send : (ℓ : NamedLft) → IsSend (part.the_row ℓ)
part_send ℓ = search (crossing, taken_send) depth 40 fits 100000
