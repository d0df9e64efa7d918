-- What is found of a job's places is the reasons of the next block.
use Rattle.std.proofs.Common.{◌≡◌, ℕ, List, map, Option, Some, sym, subst}
use Rattle.block.specs.declared.block.Block.{Block}
use Rattle.channel.specs.Configuration.{Configuration}
use Rattle.policy_eval.specs.Accepts.{Accepts}
use Rattle.transaction.specs.declared.item.Item.{Item}
use Rattle.transaction.specs.declared.block_version.BlockVersion.{BlockVersion}
use Rattle.transaction.specs.Items.{item_of}
use Rattle.rules.specs.Candidate.{used_id}
use Rattle.rules.specs.Commit.{items_of, job_of}
use Rattle.rules.specs.Job.{Job}
use Rattle.rules.specs.World.{World}
use Rattle.reasons.specs.declared.reason.Reason.{Reason}
use Rattle.reasons.specs.Reason.{AreReasons}
use Rattle.ledger.specs.NextReasons.{AreFound}

some_is : {X : Type 0} (x y : X) → Some x ≡ Some y → x ≡ y
some_is x y e = cc

module _ (channel : Configuration) (accepts : Accepts) (w : World) (b : Block) (version : BlockVersion) (txs : List (List ℕ)) (j : Job) (ids : List (Option (List ℕ)))
    (version_is : version ≡ b.version) (same : txs ≡ b.txs) (job_is : j ≡ job_of channel accepts w (items_of b)) (ids_are : ids ≡ map (used_id channel accepts) (items_of b)) where
  pub are_there : (x : Option (List Reason)) → AreFound channel w (map (item_of version) txs) j ids x → (reasons : List Reason) × (x ≡ Some reasons) × AreReasons channel accepts w (items_of b) reasons
  are_there x found = subst (λ (items : List (Option Item)). AreFound channel w items j ids x) (λ i. map (item_of (version_is i)) (same i)) found accepts job_is ids_are

  pub are_found : (reasons : List Reason) → AreFound channel w (map (item_of version) txs) j ids (Some reasons) → AreReasons channel accepts w (items_of b) reasons
  are_found reasons found =
      let it = are_there (Some reasons) found in
      subst (λ (rs : List Reason). AreReasons channel accepts w (items_of b) rs) (sym (some_is reasons it.0 it.1)) it.2
