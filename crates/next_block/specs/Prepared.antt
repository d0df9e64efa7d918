-- What was taken in of a block before its world is known. A step: a step of the ledger is stated without this.
use Rattle.std.specs.Prelude.{◌≡◌, ℕ, List, Result, MatchResult}
use Rattle.block.specs.declared.block.Block.{Block}
use Rattle.channel.specs.Configuration.{Configuration}
use Rattle.intake.specs.declared.taking.Taken.{Taken}
use Rattle.policy_eval.specs.Accepts.{Accepts}
use Rattle.rules.specs.declared.answer.Refused.{Refused}
use Rattle.rules.specs.Linked.{IsLinked, IsUnlinked}
use Rattle.rules.specs.World.{World}
use Rattle.next_block.specs.declared.prepared.Prepared.{Prepared}
use Rattle.next_block.specs.Taken.{IsTaken}
use Rattle.next_block.specs.Tentative.{AreTentativeIn}

-- what was tentative of what was taken in of the block that these bytes spell
pub record IsPrepared (channel : Configuration) (accepts : Accepts) (bytes : List ℕ) (p : Prepared) : Type 0 where
  pub taken : List Taken
  pub is_taken : IsTaken channel accepts bytes p.block taken
  pub tentative : AreTentativeIn taken p.tentative
  pub kept : p.bytes ≡ bytes

-- the block that was hashed, which is the next one of the world; or why it isn't
abbrev pub IsNextOfHashed : World → Block → Result Block Refused → Type 0
IsNextOfHashed w hashed r = MatchResult r (λ next. (next ≡ hashed) × IsLinked w next) (IsUnlinked w hashed)
