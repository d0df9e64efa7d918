-- What was made so far, and of the next piece.
use native.Mathlib.Omega.{arith}
use Rattle.std.proofs.Common.{◌≡◌, ◌++◌, ◌≤◌, ◌+◌, ◌∷◌, ℕ, List, length, take, take_all, [], zero, suc, subst, sym, refl}
use Rattle.pieces.specs.Pieces.{IsMade, AreMade}

module _ {P X : Type 0} (gives : P → X → Type 0) where
  next : (pieces : List P) (place : ℕ) (made : X) (all : List X) → IsMade gives pieces place made → AreMade gives (take place pieces) all → AreMade gives (take (suc place) pieces) (all ++ made ∷ [])
  next [] place made all is so_far = absurd (omega (arith, is.0))
  next (p ∷ ps) zero made [] is so_far = (is.1 p refl, tt)
  next (p ∷ ps) zero made (x ∷ all) is so_far = absurd so_far
  next (p ∷ ps) (suc place) made [] is so_far = absurd so_far
  next (p ∷ ps) (suc place) made (x ∷ all) is so_far = (so_far.0, next ps place made all (omega (arith, is.0), is.1) so_far.1)

  pub one_more : (pieces : List P) (place : ℕ) (made : X) (before after : List X) → after ≡ before ++ made ∷ [] → IsMade gives pieces place made → AreMade gives (take place pieces) before → AreMade gives (take (place + 1) pieces) after
  one_more pieces place made before after is one so_far =
      let count : suc place ≡ place + 1 = omega arith in
      subst (λ (all : List X). AreMade gives (take (place + 1) pieces) all) (sym is) (subst (λ (n : ℕ). AreMade gives (take n pieces) (before ++ made ∷ [])) count (next pieces place made before one so_far))

  pub at_end : (pieces : List P) (place : ℕ) (all : List X) → length pieces ≤ place → AreMade gives (take place pieces) all → AreMade gives pieces all
  at_end pieces place all end = subst (λ (ps : List P). AreMade gives ps all) (take_all place pieces end)
