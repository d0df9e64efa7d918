-- The definition over lists that are worked out by hand.
use Rattle.std.specs.Prelude.{◌≡◌, [], ◌∷◌, refl}
use Rattle.history_index.specs.Places.{last_with}

-- of several the last, of one its own place, of none 0
pub several : last_with 7 (7 ∷ 5 ∷ 7 ∷ 9 ∷ []) ≡ 3
several = refl

pub first : last_with 7 (7 ∷ 5 ∷ 9 ∷ []) ≡ 1
first = refl

pub last : last_with 9 (7 ∷ 5 ∷ 7 ∷ 9 ∷ []) ≡ 4
last = refl

pub other : last_with 6 (7 ∷ 5 ∷ 7 ∷ 9 ∷ []) ≡ 0
other = refl

pub nothing : last_with 7 [] ≡ 0
nothing = refl
