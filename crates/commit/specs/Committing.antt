-- What a committer is, and what it makes of one string of bytes.
use Rattle.std.specs.Prelude.{◌≡◌, ℕ, Bool, true, false, List, [], ◌∷◌, ◌++◌, Result, Ok, Err}
use Rattle.logbook.specs.Pages.{Book}
use Rattle.block.specs.declared.block.Block.{Block}
use Rattle.block.specs.Grammar.{Spells}
use Rattle.channel.specs.Configuration.{Configuration}
use Rattle.policy_eval.specs.Accepts.{Accepts}
use Rattle.rules.specs.declared.answer.Accepted.{Accepted}
use Rattle.rules.specs.declared.answer.Refused as rules
use Rattle.rules.specs.declared.answer.Refused.TheVariants.{Memory}
use Rattle.rules.specs.declared.delta.Delta.{Delta}
use Rattle.rules.specs.World.{World, empty_world, height_of}
use Rattle.rules.specs.Linked.{IsLinked, IsRefused}
use Rattle.rules.specs.Step.{Step}
use Rattle.query.specs.declared.receipt.Receipt.{Receipt}
use Rattle.query.specs.Published.{applied_all}
use Rattle.commit.specs.declared.not_committed.NotCommitted.{NotCommitted}
use Rattle.commit.specs.declared.not_committed.NotCommitted.TheVariants.{Refused, MemoryInCommit, Stopped}

-- Its channel, and the deltas that it has published, to the handles of its book. Once memory was refused while it published, it
-- has stopped.
pub record Committing : Type 0 where
  pub channel : Configuration
  pub book : Book
  pub list : List Delta
  pub stopped : Bool

-- the world that it has published
abbrev pub world_of : Committing → World
world_of c = applied_all (empty_world c.channel.definitions) c.list

abbrev pub accepted_in : Receipt → Accepted
accepted_in r = record { number = r.number; header_hash = r.header_hash; commit_hash = r.commit_hash; flags = r.flags }

-- what a ledger would answer, which has no readers: that a committer has stopped is want of memory too
abbrev pub answer_in : Result Receipt NotCommitted → Result Accepted rules.Refused
answer_in (Ok r) = Ok (accepted_in r)
answer_in (Err (Refused refused)) = Err refused
answer_in (Err MemoryInCommit) = Err Memory
answer_in (Err Stopped) = Err Memory

-- What a receipt says is the step's answer. The world after the step is published whole, by one delta, and whoever
-- learns the receipt knows all that was published up to it.
pub record IsCommitted (accepts : Accepts) (old : Committing) (bytes : List ℕ) (r : Receipt) (new : Committing) : Type 0 where
  pub going : old.stopped ≡ false
  pub step : Step old.channel accepts (world_of old) bytes (Ok (accepted_in r)) (world_of new)
  pub height : r.height ≡ height_of (world_of new)
  pub delta : Delta
  pub published : new ≡ record old { list = old.list ++ delta ∷ [] }
  pub told : r.front ≡ record { book = new.book; list = new.list }

-- Bytes that spell the next block are committed, other bytes are refused for the first reason that holds, and nothing
-- changes. To either, want of memory may be answered in its place; while the block is published, it stops the committer, and
-- what was published stays.
abbrev pub Submits : Accepts → Committing → List ℕ → Result Receipt NotCommitted → Committing → Type 0
Submits accepts old bytes (Ok r) new = IsCommitted accepts old bytes r new
Submits accepts old bytes (Err (Refused refused)) new = (old.stopped ≡ false) × IsRefused (world_of old) bytes refused × (new ≡ old)
Submits accepts old bytes (Err MemoryInCommit) new =
    (old.stopped ≡ false) × ((b : Block) × Spells bytes b × IsLinked (world_of old) b) × (new ≡ record old { stopped = true })
Submits accepts old bytes (Err Stopped) new = (old.stopped ≡ true) × (new ≡ old)

-- from old, these strings have these answers, one after the other, and new is what the committer is after them
abbrev pub Runs : Accepts → Committing → List (List ℕ) → List (Result Receipt NotCommitted) → Committing → Type 0
Runs accepts old [] [] new = new ≡ old
Runs accepts old (bytes ∷ blocks) (answer ∷ answers) new =
    (mid : Committing) × Submits accepts old bytes answer mid × Runs accepts mid blocks answers new
Runs accepts old [] (answer ∷ answers) new = ⊥
Runs accepts old (bytes ∷ blocks) [] new = ⊥
