-- Worked rows: heads.
use Rattle.std.proofs.Common.{◌≡◌, [], ◌∷◌, refl}
use Rattle.state_keys.specs.Head.{head_of}

-- `n`, a zero, `a`, and zeros, behind which it says that there are three bytes
head_of_a : head_of (110 ∷ [], 97 ∷ []) ≡ 110 ∷ 0 ∷ 97 ∷ 0 ∷ 0 ∷ 0 ∷ 0 ∷ 0 ∷ 0 ∷ 0 ∷ 0 ∷ 0 ∷ 0 ∷ 0 ∷ 0 ∷ 0 ∷ 0 ∷ 0 ∷ 0 ∷ 0 ∷ 0 ∷ 0 ∷ 0 ∷ 3 ∷ []
unfolding head_of
head_of_a = refl
