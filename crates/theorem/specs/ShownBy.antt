-- The ledgers that a committer has shown, by the change sets (deltas) that it has published. Only the proved statements
-- in src/ need this.
use Rattle.std.specs.Prelude.{◌≡◌, ◌≤◌, ◌⊎◌, ℕ, List, [], ◌∷◌, Result, Ok, Err}
use mathlib.Core.List.{IsPrefix}
use Rattle.rules.specs.declared.delta.Delta.{Delta}
use Rattle.rules.specs.World.{World, empty_world, height_of}
use Rattle.rules.specs.Delta as delta
use Rattle.rules.specs.declared.answer.Accepted.{Accepted}
use Rattle.query.specs.declared.receipt.Receipt.{Receipt}
use Rattle.commit.specs.declared.not_committed.NotCommitted.{NotCommitted}
use Rattle.commit.specs.Committing.{Committing, accepted_in}
use Rattle.query.specs.Published.{Watch, watched_world}
use Rattle.theorem.specs.Promise.{Shown, newest}

-- the ledger after each of these, from this one on
abbrev pub ledgers_of : World → List Delta → List World
ledgers_of w [] = []
ledgers_of w (d ∷ ds) = delta.applied w d ∷ ledgers_of (delta.applied w d) ds

abbrev pub shown_by : Committing → Shown
shown_by c = record { channel = c.channel; ledgers = ledgers_of (empty_world c.channel.definitions) c.list; stopped = c.stopped }

-- the answer that a receipt has
abbrev pub answered : Result Receipt NotCommitted → Result Accepted NotCommitted
answered (Ok r) = Ok (accepted_in r)
answered (Err e) = Err e

-- the height that a handle knows of
abbrev pub known_by : Watch → ℕ
known_by h = height_of (watched_world h)

-- A handle that the committer opened, and a time by which the committer has shown the height that the handle knows of.
-- Of what the handle knows and what was published one begins the other: `QueryHandle::knows` promises this of each
-- handle and each receipt of its committer.
pub record IsHandleOf (c : Committing) (h : Watch) : Type 0 where
  pub base : h.base ≡ empty_world c.channel.definitions
  pub one_begins : IsPrefix c.list h.list ⊎ IsPrefix h.list c.list
  pub up_to : known_by h ≤ height_of (newest (shown_by c))
