-- The rule of what readers take: a world is what its list of deltas makes of one base. A step between the definitions and the
-- code: no public contract cites this.
use Rattle.std.specs.Prelude.{◌≡◌, ℕ, List, Option, Some, None, fold}
use mathlib.Core.Option.{some}
use mathlib.Core.List.{IsPrefix}
use lib.ListN.{get_elem?}
use Rattle.std.specs.FinMap.{empty}
use Rattle.logbook.specs.Pages.{Book}
use Rattle.rules.specs.World.{World, empty_world}
use Rattle.world.specs.Applied.{applied_with}
use Rattle.query.specs.Published.{Beginning, applied_all, AreLinkedDeltas}
use Rattle.query.specs.declared.shown.Shown.{Shown}
use Rattle.query.specs.declared.shown.Operation.{Operation}
use Rattle.query.specs.declared.shown.Operation.TheVariants.{Room, Block}
use Rattle.query.specs.declared.shown.Told.{Told}

-- what a seat was told, if it was
abbrev pub View : Type 0
View = Option Told

-- any world will do where nothing was told
abbrev pub base_of : View → World
base_of (Some told) = told.base
base_of None = empty_world empty

abbrev pub absorbed : Shown → Operation → Shown
absorbed x (Room r) = x
absorbed x (Block e) = record { world = applied_with x.world e.delta e.definitions; front = e.front }

-- operations that nobody sees
pub record ChangeNothing (operations : List Operation) : Type 0 where
  pub same : (x : Shown) → fold absorbed x operations ≡ x

-- a seat was told of this base, and of the book of what is shown
pub record Fits (x : Shown) (base : World) (told : Told) : Type 0 where
  pub same_base : told.base ≡ base
  pub same_book : told.front.book ≡ x.front.book

pub record IsRuled (x : Shown) (views : List View) : Type 0 where
  pub base : World
  pub world : x.world ≡ applied_all base x.front.list
  pub linked : AreLinkedDeltas base x.front.list
  pub fits : (seat : ℕ) (told : Told) → get_elem? views seat ≡ some (Some told) → Fits x base told

-- what a seat that was told finds
pub record Finds (told : Told) (x : Shown) : Type 0 where
  pub book : x.front.book ≡ told.front.book
  pub world : x.world ≡ applied_all told.base x.front.list
  pub linked : AreLinkedDeltas told.base x.front.list

-- a look, or a publish: the view stays, and tells what is shown afterwards
abbrev pub Sees : View → Shown → Shown → View → Type 0
Sees v x y w = (w ≡ v) × ((told : Told) → v ≡ Some told → Finds told y)

-- the writer's first step: what is shown is the base
abbrev pub Begins : View → Shown → Shown → View → Type 0
Begins v x y w = w ≡ Some (record { base = y.world; front = y.front })

-- what is taken goes on from what was known
pub record Takes (told : Told) (old new : Beginning) : Type 0 where
  pub book : new.book ≡ told.front.book
  pub no_less : IsPrefix old.list new.list
  pub linked : AreLinkedDeltas told.base new.list

-- the seat was told of this base and book
pub record IsTold (v : View) (base : World) (book : Book) : Type 0 where
  pub told : Told
  pub is : v ≡ Some told
  pub same_base : told.base ≡ base
  pub same_book : told.front.book ≡ book

-- what is shown is the world after a list that is a chain
pub record IsShown (base : World) (front : Beginning) (x : Shown) : Type 0 where
  pub world : x.world ≡ applied_all base front.list
  pub same_front : x.front ≡ front
  pub linked : AreLinkedDeltas base front.list
