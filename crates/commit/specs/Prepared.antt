-- What was taken in of a block before its world is known. No public contract cites this.
use Rattle.std.specs.Prelude.{ℕ, List, Option, Result, IfSome, MatchResult}
use Rattle.block.specs.declared.block.Block.{Block}
use Rattle.block.specs.Grammar.{Spells}
use Rattle.channel.specs.Configuration.{Configuration}
use Rattle.intake_workers.specs.declared.taken_part.TakenPart.{TakenPart}
use Rattle.intake_workers.specs.Parts.{IsTakenPart}
use Rattle.next_block.specs.declared.prepared.Prepared.{Prepared}
use Rattle.next_block.specs.NextDelta.{IsNextDelta}
use Rattle.next_block.specs.Prepared.{IsPrepared}
use Rattle.policy_eval.specs.Accepts.{Accepts}
use Rattle.rules.specs.declared.answer.Refused.{Refused}
use Rattle.rules.specs.declared.delta.Delta.{Delta}
use Rattle.rules.specs.Linked.{IsRefused}
use Rattle.rules.specs.World.{World}

-- what was taken in of the block that these bytes spell, or why the bytes are refused by this world
abbrev pub IsTakenIn : Configuration → Accepts → World → List ℕ → Result Prepared Refused → Type 0
IsTakenIn channel accepts w bytes r = MatchResult r (IsPrepared channel accepts bytes) (IsRefused w bytes)

-- by every world
pub record MayBeTakenIn (channel : Configuration) (accepts : Accepts) (bytes : List ℕ) (r : Result Prepared Refused) : Type 0 where
  pub by : (w : World) → IsTakenIn channel accepts w bytes r

-- of a part of the block that these bytes spell, where they spell one
pub record MayBeTakenInPart (channel : Configuration) (accepts : Accepts) (bytes : List ℕ) (count number : ℕ) (part : TakenPart) : Type 0 where
  pub of : (b : Block) → Spells bytes b → IsTakenPart channel accepts b count number part

-- this, where it was taken in
abbrev pub MayWait : Configuration → Accepts → World → List ℕ → Option (Result Prepared Refused) → Type 0
MayWait channel accepts w bytes next = IfSome next (IsTakenIn channel accepts w bytes)

-- the delta of the next block, with a number of which nothing is said; or why the bytes are refused
abbrev pub IsNextDeltaOr : Configuration → Accepts → World → List ℕ → Result (Delta × ℕ) Refused → Type 0
IsNextDeltaOr channel accepts w bytes r = MatchResult r (λ d. IsNextDelta channel accepts w bytes d.0) (IsRefused w bytes)
