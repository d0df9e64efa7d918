-- A block that was taken in: what can be said of its items without the world. No public contract cites this.
use Rattle.std.specs.Prelude.{◌≡◌, ℕ, List, map, Result, MatchResult, Vec}
use Rattle.std.specs.declared.alloc.Global.{Global}
use Rattle.block.specs.declared.block.Block.{Block}
use Rattle.block.specs.Grammar.{Spells}
use Rattle.channel.specs.Configuration.{Configuration}
use Rattle.intake.specs.declared.taking.Taken.{Taken}
use Rattle.intake.specs.Place.{taken_of, shown}
use Rattle.policy_eval.specs.Accepts.{Accepts}
use Rattle.rules.specs.declared.answer.Refused.{Refused}
use Rattle.rules.specs.Commit.{items_of}
use Rattle.rules.specs.Linked.{IsLinked, IsRefused}
use Rattle.rules.specs.World.{World}

-- the block that the bytes spell, and what can be said of each of its items
pub record IsTaken (channel : Configuration) (accepts : Accepts) (bytes : List ℕ) (b : Block) (places : List Taken) : Type 0 where
  pub spelled : Spells bytes b
  pub taken : map shown places ≡ map (taken_of channel accepts) (items_of b)

-- this, and the block is the next one of the world
pub record IsNext (channel : Configuration) (accepts : Accepts) (w : World) (bytes : List ℕ) (b : Block)
    (places : List Taken) : Type 0 where
  pub is_taken : IsTaken channel accepts bytes b places
  pub linked : IsLinked w b

-- these, or why the bytes are refused
abbrev pub IsNextTakenIn : Configuration → Accepts → World → List ℕ → Result (Block × Vec Taken Global) Refused → Type 0
IsNextTakenIn channel accepts w bytes r = MatchResult r (λ next. IsNext channel accepts w bytes next.0 next.1.items) (IsRefused w bytes)
