-- A step between the first uses and the code: uses that stand in shared lists.
use Rattle.std.specs.Prelude.{◌≡◌, ◌<◌, ◌==◌, ℕ, List, [], ◌∷◌, ◌++◌, length, get_or, Some}
use Rattle.std.specs.FinMap.{empty}
use Rattle.std.specs.Map.{lookup}
use Rattle.rules.specs.declared.delta.NewUse.{NewUse}
use Rattle.rules.specs.declared.first_use.FirstUse.{FirstUse}
use Rattle.rules.specs.declared.flag.Flag.TheVariants.{Valid}
use Rattle.rules.specs.Delta.{uses_in}
use Rattle.rules.specs.FirstUses.{FirstUses, with_uses}
use Rattle.txid_index.specs.declared.lists.UsePlace.{UsePlace}

abbrev pub no_use : NewUse
no_use = record { id = []; first_use = record { block = 0; place = 0; flag = Valid } }

-- the use that stands in one of these lists
abbrev pub use_in : List (List NewUse) → UsePlace → NewUse
use_in lists p = get_or (get_or lists p.list []) p.index no_use

-- there is such a list, and such a place in it
abbrev pub IsThere : List (List NewUse) → UsePlace → Type 0
IsThere lists p = (p.list < length lists) × (p.index < length (get_or lists p.list []))

-- so it is of each place that is kept for a hash
abbrev pub AreThere : List (List NewUse) → List (ℕ × UsePlace) → Type 0
AreThere lists firsts = (hash : ℕ) (p : UsePlace) → lookup (λ h. hash == h) firsts ≡ Some p → IsThere lists p

-- this use stands there
abbrev pub IsAt : List (List NewUse) → UsePlace → NewUse → Type 0
IsAt lists p u = IsThere lists p × (use_in lists p ≡ u)

-- this list has this number
abbrev pub IsListAt : List (List NewUse) → ℕ → List NewUse → Type 0
IsListAt lists n us = (n < length lists) × (get_or lists n [] ≡ us)

-- the uses of all lists, in order
abbrev pub listed : List (List NewUse) → List (List ℕ × FirstUse)
listed [] = []
listed (us ∷ lists) = uses_in us ++ listed lists

-- the first uses that they make
abbrev pub uses_of : List (List NewUse) → FirstUses
uses_of lists = with_uses empty (listed lists)
