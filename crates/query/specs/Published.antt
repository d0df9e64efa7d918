-- What is known of a publisher, of a handle and of a receipt: each knows a beginning of one list of deltas. That this list is
-- what was published is the rule of what readers take (Rule.antt): what is shown is the world after its list, at each step.
use Rattle.std.specs.Prelude.{◌≡◌, Bool, true, List, [], ◌∷◌, fold}
use mathlib.Core.List.{IsPrefix}
use Rattle.logbook.specs.Pages.{Book}
use Rattle.rules.specs.declared.delta.Delta.{Delta}
use Rattle.rules.specs.World.{World}
use Rattle.rules.specs.Delta.{applied}
use Rattle.rules.specs.Linked.{IsLinkedDelta}
use Rattle.query.specs.declared.fault.PublishFault.{PublishFault}
use Rattle.query.specs.declared.fault.PublishFault.TheVariants.{Memory, Failed}

-- the world after deltas, one after the other
abbrev pub applied_all : World → List Delta → World
applied_all w ds = fold applied w ds

-- a chain: each delta is linked to the world after those before it
abbrev pub AreLinkedDeltas : World → List Delta → Type 0
AreLinkedDeltas w [] = Unit {0}
AreLinkedDeltas w (d ∷ ds) = IsLinkedDelta w d × AreLinkedDeltas (applied w d) ds

-- The first deltas of a list. The book says of which: what was opened together has one book.
pub record Beginning : Type 0 where
  pub book : Book
  pub list : List Delta

-- a handle: the world that it was opened with, and the deltas that it has seen or was told of
pub record Watch : Type 0 where
  pub book : Book
  pub base : World
  pub list : List Delta

-- a publisher: the world that it was opened with, and the deltas that it has published
pub record Publishing : Type 0 where
  pub book : Book
  pub base : World
  pub list : List Delta
  pub failed : Bool

abbrev pub watched_world : Watch → World
watched_world w = applied_all w.base w.list

abbrev pub published_world : Publishing → World
published_world p = applied_all p.base p.list

-- what a query makes of a handle: it knows no less than before, and what it knows is a chain
pub record GoesOn (old new : Watch) : Type 0 where
  pub same_book : new.book ≡ old.book
  pub same_base : new.base ≡ old.base
  pub no_less : IsPrefix old.list new.list
  pub linked : AreLinkedDeltas new.base new.list

-- what being told of a list makes of a handle: it knows that too
pub record Learns (old : Watch) (told : List Delta) (new : Watch) : Type 0 where
  pub same_book : new.book ≡ old.book
  pub same_base : new.base ≡ old.base
  pub no_less : IsPrefix old.list new.list
  pub knows_told : IsPrefix told new.list

-- what a publish that failed leaves: a publisher as it was, or one that publishes nothing more
abbrev pub Leaves : Publishing → PublishFault → Publishing → Type 0
Leaves old Memory new = new ≡ old
Leaves old Failed new = new ≡ record old { failed = true }
