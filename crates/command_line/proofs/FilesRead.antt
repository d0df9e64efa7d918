-- Files that workers read.
use Rattle.std.proofs.Common.{◌≡◌, ◌++◌, ◌∷◌, ◌∙◌, ℕ, List, [], map, Result, Ok, Err, MatchResult, Option, Some, None, IfSome, inl, inr, refl, sym, ap, subst, append_assoc}
use Rattle.command_files.specs.declared.fault.Fault.{Fault}
use Rattle.command_files.specs.Failing.{AtFault, Because, FilesFail, at_fault}
use Rattle.command_files.specs.Reading.{AreHeld}
use Rattle.pieces.specs.Pieces.{AreMade}
use Rattle.command_line.specs.Ending.{IsFirst}

-- what a file holds, or why it isn't read
abbrev pub Finds : {X : Type 0} → (X → List ℕ → Type 0) → (X → AtFault → Type 0) → X → Result (List ℕ) Fault → Type 0
Finds Holds Fails path found = MatchResult found (Holds path) (Because (Fails path))

module _ {X : Type 0} (Holds : X → List ℕ → Type 0) (Fails : X → AtFault → Type 0) where
  -- if each is found, these are what the files hold
  are_held : (paths : List X) (all : List (List ℕ)) → AreMade (Finds Holds Fails) paths (map Ok all) → AreHeld Holds paths all
  are_held [] [] made = tt
  are_held [] (bytes ∷ all) made = absurd made
  are_held (path ∷ paths) [] made = absurd made
  are_held (path ∷ paths) (bytes ∷ all) made = (made.0, are_held paths all made.1)

  pub all_held : (paths pieces : List X) (found : List (Result (List ℕ) Fault)) (all : List (List ℕ))
      → pieces ≡ paths → map Ok all ≡ found → AreMade (Finds Holds Fails) pieces found → AreHeld Holds paths all
  all_held paths pieces found all same are made =
      subst (λ (ps : List X). AreHeld Holds ps all) same
      (are_held pieces all (subst (λ (l : List (Result (List ℕ) Fault)). AreMade (Finds Holds Fails) pieces l) (sym are) made))

  fails : (paths : List X) (found : List (Result (List ℕ) Fault)) (fault : Fault) (what : AtFault) → at_fault fault ≡ Some what → AreMade (Finds Holds Fails) paths found → IsFirst fault found → FilesFail Holds Fails paths what
  fails [] [] fault what is made first = absurd first
  fails [] (one ∷ found) fault what is made first = absurd made
  fails (path ∷ paths) [] fault what is made first = absurd made
  fails (path ∷ paths) (Ok bytes ∷ found) fault what is made first = inr (bytes, made.0, fails paths found fault what is made.1 first)
  fails (path ∷ paths) (Err e ∷ found) fault what is made first = inl (subst (λ (o : Option AtFault). IfSome o (Fails path)) (ap at_fault first ∙ is) made.0)

  -- the first fault is that of the first file that isn't read
  pub first_fails : (paths pieces : List X) (found : List (Result (List ℕ) Fault)) (fault : Fault)
      → pieces ≡ paths → AreMade (Finds Holds Fails) pieces found → Because (λ what. IsFirst fault found) fault → Because (FilesFail Holds Fails paths) fault
  first_fails paths pieces found fault same made = by (at_fault fault) refl
    where
      by : (o : Option AtFault) → at_fault fault ≡ o → IfSome o (λ what. IsFirst fault found) → IfSome o (FilesFail Holds Fails paths)
      by None is h = h
      by (Some what) is h = subst (λ (ps : List X). FilesFail Holds Fails ps what) same (fails pieces found fault what is made h)

map-append : {A B : Type 0} (f : A → B) (xs ys : List A) → map f (xs ++ ys) ≡ map f xs ++ map f ys
map-append f [] ys = refl
map-append f (x ∷ xs) ys = ap (λ l. f x ∷ l) (map-append f xs ys)

-- one more was found
pub one_more : {E : Type 0} (before after : List (List ℕ)) (bytes : List ℕ) (found : Result (List ℕ) E) (rest rest' all : List (Result (List ℕ) E))
    → rest ≡ found ∷ rest' → found ≡ Ok bytes → after ≡ before ++ bytes ∷ [] → map Ok before ++ rest ≡ all → map Ok after ++ rest' ≡ all
one_more before after bytes found rest rest' all left is more so_far =
    ap (λ l. map Ok l ++ rest') more
    ∙ (ap (λ l. l ++ rest') (map-append Ok before (bytes ∷ []))
    ∙ (append_assoc (map Ok before) (Ok bytes ∷ []) rest'
    ∙ (ap (λ f. map Ok before ++ f ∷ rest') (sym is)
    ∙ (ap (λ l. map Ok before ++ l) (sym left) ∙ so_far))))

-- what is found first that isn't read
pub first_at : (before : List (List ℕ)) (fault : Fault) (rest found : List (Result (List ℕ) Fault)) → map Ok before ++ Err fault ∷ rest ≡ found → Because (λ what. IsFirst fault found) fault
first_at before fault rest found are = by (at_fault fault)
  where
    first : (bs : List (List ℕ)) → IsFirst fault (map Ok bs ++ Err fault ∷ rest)
    first [] = refl
    first (b ∷ bs) = first bs

    by : (o : Option AtFault) → IfSome o (λ what. IsFirst fault found)
    by None = tt
    by (Some what) = subst (IsFirst fault) are (first before)
