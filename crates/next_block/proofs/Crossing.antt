-- A delta without its commit hash may be shared by threads. As of the rules, it goes part by part.
use denote.Param.Send.{IsSync, view_sync, struct_sync, recorded_sync}
use denote.Struct.Declared.{shape}
use Rattle.rules.proofs.Crossing.{crossing, policy_send, policy_sync}
use Rattle.rules.specs.contracts.delta.NewUse as new_use
use Rattle.state_db.specs.contracts.batch.Batch as batch
use Rattle.next_block.specs.contracts.pending.PendingDelta as pending
use Rattle.next_block.specs.contracts.pending.PendingDelta.TheInside as inside

batch_sync : IsSync batch.the_row
batch_sync = search (crossing, policy_send, policy_sync) depth 40 fits 100000

new_use_sync : IsSync new_use.the_row
new_use_sync = search crossing depth 40 fits 100000

fields_sync : IsSync inside.the_row
fields_sync = recorded_sync _ _ (inside.the_type.to) (inside.the_type.to_one) (struct_sync (shape inside.the_type) (
  (search crossing depth 40 fits 100000),
  (
    (search crossing depth 20 fits 10000),
    (
      (search crossing depth 20 fits 10000),
      (
        (search (crossing, policy_send, policy_sync) depth 40 fits 100000),
        (
          batch_sync,
          (
            (search (crossing, new_use_sync) depth 20 fits 10000),
            (
              (search crossing depth 20 fits 10000),
              tt,
            ),
          ),
        ),
      ),
    ),
  ),
))

pub pending_sync : IsSync pending.the_row
pending_sync = view_sync inside.the_row _ _ _ _ fields_sync
