-- Files that are read one after the other.
use Rattle.std.proofs.Common.{◌≡◌, ◌++◌, ◌∷◌, ◌+◌, ◌<◌, ℕ, List, [], length, get_or, take, sym, subst}
use Rattle.std.proofs.lemmas.List.{take_more}
use Rattle.command_files.specs.Reading.{AreHeld}

module _ {X : Type 0} (Holds : X → List ℕ → Type 0) where
  AreHeld-push : (paths : List X) (blocks : List (List ℕ)) (path : X) (bytes : List ℕ) → AreHeld Holds paths blocks → Holds path bytes → AreHeld Holds (paths ++ path ∷ []) (blocks ++ bytes ∷ [])
  AreHeld-push [] [] path bytes are holds = (holds, tt)
  AreHeld-push (p ∷ paths) (b ∷ blocks) path bytes are holds = (are.0, AreHeld-push paths blocks path bytes are.1 holds)
  AreHeld-push [] (b ∷ blocks) path bytes are holds = absurd are
  AreHeld-push (p ∷ paths) [] path bytes are holds = absurd are

  -- one file more
  pub AreHeld-more : (paths : List X) (i : ℕ) (d : X) (blocks blocks' : List (List ℕ)) (bytes : List ℕ)
      → i < length paths → AreHeld Holds (take i paths) blocks → Holds (get_or paths i d) bytes → blocks' ≡ blocks ++ bytes ∷ [] → AreHeld Holds (take (i + 1) paths) blocks'
  AreHeld-more paths i d blocks blocks' bytes lt are holds e =
      subst (λ (all : List (List ℕ)). AreHeld Holds (take (i + 1) paths) all) (sym e)
      (subst (λ (all : List X). AreHeld Holds all (blocks ++ bytes ∷ [])) (sym (take_more paths i d lt)) (AreHeld-push (take i paths) blocks (get_or paths i d) bytes are holds))
