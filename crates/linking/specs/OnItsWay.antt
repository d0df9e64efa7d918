-- Blocks on their way into a world.
use Rattle.std.specs.Prelude.{◌≡◌, ℕ, List, Option, Result, MatchResult}
use Rattle.block.specs.declared.block.Block.{Block}
use Rattle.block.specs.Grammar.{Spells, bytes_of}
use Rattle.rules.specs.declared.answer.Refused.{Refused}
use Rattle.rules.specs.World.{World, height_of, last_header_hash}
use Rattle.rules.specs.Linked.{HasNumber, HasPrevious, IsLinked, IsRefused, IsUnlinked}

-- what the bytes spell, or why any world refuses them
abbrev pub IsDecoded : List ℕ → Result Block Refused → Type 0
IsDecoded bytes r = MatchResult r (Spells bytes) (λ refused. (w : World) → IsRefused w bytes refused)

-- the world has this height and this last header hash
abbrev pub EndsAt : World → ℕ → Option (List ℕ) → Type 0
EndsAt w height hash = (height_of w ≡ height) × (last_header_hash w ≡ hash)

abbrev pub IsAtPlace : World → Block → Type 0
IsAtPlace w b = HasNumber w b × HasPrevious w b

-- a block that is at the place of the world's next one, or why this one isn't
abbrev pub IsPlaced : World → Block → Result Block Refused → Type 0
IsPlaced w b r = MatchResult r (IsAtPlace w) (IsUnlinked w b)

-- a block that is the world's next one, or the first reason why this one isn't
abbrev pub IsNextOf : World → Block → Result Block Refused → Type 0
IsNextOf w b r = MatchResult r (IsLinked w) (IsUnlinked w b)
