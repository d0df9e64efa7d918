-- A closure that keeps what it captures answers by one function.
use Rattle.std.proofs.Common.{◌≡◌, List, [], ◌∷◌, sym, subst}
use Rattle.std.specs.Fn.{Called, AlwaysReturns, ReturnsEach}
use denote.Param.Members.{Mut}

pub answers_alike : {F X R : Type 0} (g : Mut F X R) (P : X → R → Type 0) (f : F) → ((a : X) (r : R) (after : F) → Called g f a r after → P a r × (after ≡ f)) → AlwaysReturns g P f
answers_alike {F} {X} {R} g P f each = record { at = all }
  where
    all : (xs : List X) → ReturnsEach g P f xs
    all [] = tt
    all (a ∷ xs) = λ r after called. let one = each a r after called in (one.0, subst (λ (s : F). ReturnsEach g P s xs) (sym one.1) (all xs))
