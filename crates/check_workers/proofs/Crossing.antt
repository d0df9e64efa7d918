-- A job may be shared by threads. As in the rules, the proof goes field by field.
use denote.Ref.{NamedLft}
use denote.Param.Send.{IsSync, view_sync, struct_sync, recorded_sync}
use denote.Struct.Declared.{shape}
use Rattle.values.proofs.lent.Slice.TheSendSync as slice
use Rattle.values.proofs.lent.NameRef.TheSendSync as name_ref
use Rattle.values.proofs.lent.KeyRef.TheSendSync as key_ref
use Rattle.transaction.proofs.identity.Identity.TheSendSync as identity
use Rattle.transaction.proofs.transaction.Tx.TheSendSync as tx
use Rattle.policy_eval.proofs.signer_list.Signers.TheSendSync as signers
use Rattle.rules.proofs.Crossing as rules
use Rattle.rules.proofs.Crossing.{policy_send, policy_sync, definitions_sync}
use Rattle.state_keys.proofs.state_key.StateKey.TheSendSync as state_key
use Rattle.state_db.specs.contracts.state_db.StateDb as state
use Rattle.candidates.specs.contracts.candidate.Candidate as candidate
use Rattle.key_chains.proofs.chains.Chains.TheSendSync as chains
use Rattle.key_chains.specs.contracts.job.Job as job
use Rattle.key_chains.specs.contracts.job.Job.TheInside as inside

pub ruleset crossing = (
  rules.crossing,
  slice.the_sync,
  name_ref.the_sync,
  key_ref.the_sync,
  identity.the_sync,
  tx.the_sync,
  signers.the_sync,
  state_key.the_sync,
  chains.the_sync,
)

state_sync : IsSync state.the_row
state_sync = search (crossing, policy_send, policy_sync) depth 40 fits 100000

candidate_sync : (ℓ : NamedLft) → IsSync (candidate.the_row ℓ)
candidate_sync ℓ = search (crossing, policy_send, policy_sync) depth 40 fits 100000

fields_sync : (ℓ κ : NamedLft) → IsSync (inside.the_row ℓ κ)
fields_sync ℓ κ = recorded_sync _ _ ((inside.the_type ℓ κ).to) ((inside.the_type ℓ κ).to_one) (struct_sync (shape (inside.the_type ℓ κ)) (
  search crossing depth 20,
  (
    (search (crossing, state_sync) depth 20 fits 10000),
    (
      (search (crossing, definitions_sync) depth 20 fits 10000),
      (
        (search (crossing, policy_sync) depth 20 fits 10000),
        (
          (search (crossing, candidate_sync) depth 20 fits 10000),
          (
            (search crossing depth 20 fits 10000),
            (
              (search crossing depth 20 fits 10000),
              (
                (search (crossing, policy_send, policy_sync) depth 40 fits 100000),
                tt,
              ),
            ),
          ),
        ),
      ),
    ),
  ),
))

pub job_sync : (ℓ κ : NamedLft) → IsSync (job.the_row ℓ κ)
job_sync ℓ κ = view_sync (inside.the_row ℓ κ) _ _ _ _ (fields_sync ℓ κ)
