-- What was taken in of a block may go to another thread. As of the rules, it goes part by part.
use denote.Ref.{NamedLft}
use denote.Param.Send.{IsSend, struct_send, recorded_send}
use denote.Struct.Declared.{shape}
use Rattle.intake_workers.proofs.Crossing as intake
use Rattle.intake_workers.proofs.Crossing.{candidate_send}
use Rattle.key_chains.proofs.chains.Chains.TheSendSync as chains
use Rattle.key_chains.specs.contracts.key_writers.KeyWriters as key_writers
use Rattle.linking.specs.contracts.linked.HashedBlock as hashed
use Rattle.next_block.specs.contracts.tentative.TentativeJob as tentative
use Rattle.next_block.specs.contracts.prepared.Prepared as prepared

pub ruleset crossing = (intake.crossing, chains.the_send)

key_writers_send : (ℓ : NamedLft) → IsSend (key_writers.the_row ℓ)
key_writers_send ℓ = search (crossing, candidate_send) depth 40 fits 100000

tentative_send : (ℓ : NamedLft) → IsSend (tentative.the_field ℓ).row
tentative_send ℓ = search (crossing, key_writers_send) depth 40 fits 100000

hashed_send : (ℓ : NamedLft) → IsSend (hashed.the_row ℓ)
hashed_send ℓ = search crossing depth 40 fits 100000

pub prepared_send : (ℓ : NamedLft) → IsSend (prepared.the_row ℓ)
prepared_send ℓ = recorded_send _ _ _ ((prepared.the_type ℓ).to_one) (struct_send (shape (prepared.the_type ℓ)) (
  search (crossing, hashed_send) depth 20 fits 10000,
  (
    (search crossing depth 20 fits 10000),
    (
      (search (crossing, tentative_send) depth 20 fits 10000),
      tt,
    ),
  ),
))
