-- Reasons that are gathered place by place.
use Rattle.std.proofs.Common.{◌≡◌, ℕ, zero, suc, ◌<◌, List, [], ◌∷◌, ◌++◌, length, map, get_or, Option, Some, None, sym, ap, subst, arith}
use Rattle.std.specs.Prelude.{slice_get}

pub each_and_one_more : {X : Type 0} (P : ℕ → X → Type 0) (xs : List X) (x : X) → ((n : ℕ) (y : X) → slice_get xs n ≡ Some y → P n y) → P (length xs) x → (n : ℕ) (y : X) → slice_get (xs ++ x ∷ []) n ≡ Some y → P n y
each_and_one_more P [] x each one zero y e = let same : x ≡ y = cc in subst (P 0) same one
each_and_one_more P [] x each one (suc n) y e = absurd cc
each_and_one_more P (z ∷ zs) x each one zero y e = each zero y e
each_and_one_more P (z ∷ zs) x each one (suc n) y e = each_and_one_more (λ m a. P (suc m) a) zs x (λ m a is. each (suc m) a is) one n y e

pub at_place : {A B : Type 0} (f : A → Option B) (xs : List A) (i : ℕ) (x : A) → i < length xs → x ≡ get_or xs i x → get_or (map f xs) i None ≡ f x
at_place f [] i x lt is = absurd (omega arith)
at_place f (y ∷ ys) zero x lt is = ap f (sym is)
at_place f (y ∷ ys) (suc i) x lt is = at_place f ys i x (omega arith) is
