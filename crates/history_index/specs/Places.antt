-- Places in a list, counted from 1.
use Rattle.std.specs.Prelude.{ℕ, zero, suc, List, [], ◌∷◌, Bool, ◌==◌, if◌then◌else◌}

-- the place after one that is 0 if there is none
abbrev pub place_or : ℕ → ℕ → ℕ
place_or zero first = first
place_or (suc n) first = suc (suc n)

-- the place of the last one that passes the test, 0 if none does
abbrev pub last_place : {A : Type 0} → (A → Bool) → List A → ℕ
last_place test [] = 0
last_place test (x ∷ xs) = place_or (last_place test xs) (if test x then 1 else 0)

-- the last place with this hash
abbrev pub last_with : ℕ → List ℕ → ℕ
last_with hash hashes = last_place (λ h. h == hash) hashes
