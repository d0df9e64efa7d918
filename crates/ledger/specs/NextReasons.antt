-- The reasons of the next block of a world.
use Rattle.std.specs.Prelude.{◌≡◌, ℕ, List, map, Option, Some}
use Rattle.block.specs.declared.block.Block.{Block}
use Rattle.block.specs.Grammar.{Spells}
use Rattle.channel.specs.Configuration.{Configuration}
use Rattle.policy_eval.specs.Accepts.{Accepts}
use Rattle.transaction.specs.declared.item.Item.{Item}
use Rattle.rules.specs.Candidate.{used_id}
use Rattle.rules.specs.Job.{Job}
use Rattle.rules.specs.World.{World}
use Rattle.rules.specs.Linked.{IsLinked}
use Rattle.rules.specs.Commit.{items_of, job_of}
use Rattle.reasons.specs.declared.reason.Reason.{Reason}
use Rattle.reasons.specs.Reason.{AreReasons}

-- The bytes spell a block that is the next one, and these are the reasons of its places.
pub record AreNextReasons (channel : Configuration) (accepts : Accepts) (w : World) (bytes : List ℕ) (reasons : List Reason) : Type 0 where
  pub block : Block
  pub spelled : Spells bytes block
  pub linked : IsLinked w block
  pub are_reasons : AreReasons channel accepts w (items_of block) reasons

-- Whatever the verifier, where the job is that of these items and the ids are theirs, these are their reasons. A step
-- to the former.
abbrev pub AreFound : Configuration → World → List (Option Item) → Job → List (Option (List ℕ)) → Option (List Reason) → Type 0
AreFound channel w items j ids x =
    (accepts : Accepts) → j ≡ job_of channel accepts w items → ids ≡ map (used_id channel accepts) items
    → (reasons : List Reason) × (x ≡ Some reasons) × AreReasons channel accepts w items reasons
