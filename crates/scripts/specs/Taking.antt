-- What taking in one more line does. No public contract cites this.
use Rattle.std.specs.Prelude.{◌≡◌, Bool, true, false, Option, Some, None, Result, Ok, Err}
use Rattle.std.specs.declared.alloc.AllocError.{AllocError}
use Rattle.scripts.specs.declared.so_far.SoFar.{SoFar}

-- the line was taken in, or it is faulty and the finished items are those before it; or memory ran out
abbrev pub Takes : Result Bool AllocError → SoFar → SoFar → Option SoFar → Type 0
Takes (Ok true) before new wanted = wanted ≡ Some new
Takes (Ok false) before new wanted = (wanted ≡ None) × (new.items ≡ before.items)
Takes (Err e) before new wanted = Unit {0}

-- the value was changed so, or it can't be; or memory ran out
abbrev pub Changes : {A : Type 0} → Result Bool AllocError → A → Option A → Type 0
Changes (Ok true) new wanted = wanted ≡ Some new
Changes (Ok false) new wanted = wanted ≡ None
Changes (Err e) new wanted = Unit {0}
