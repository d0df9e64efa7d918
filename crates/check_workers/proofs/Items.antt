-- Whichever items leave a deque, those in it stay below n, and those that left are below n too.
use Rattle.std.proofs.Common.{ℕ, ◌<◌, All, List, [], ◌∷◌, ◌++◌, length, subst}
use lib.Seq.{take-append_seam, drop-append_seam}
use Rattle.std.proofs.lemmas.List.Elements.{All-take, All-drop}
use Rattle.crossbeam_deque.specs.Tasks.{Takes, Pops}

abbrev AreBelow : ℕ → List ℕ → Type 0
AreBelow n items = All (λ task. task < n) items

abbrev Holds : ℕ → List ℕ → List (Unit {0}) → Type 0
Holds n items views = AreBelow n items

front : (n : ℕ) (xs ys : List ℕ) → AreBelow n (xs ++ ys) → AreBelow n xs
front n xs ys below = subst (AreBelow n) (take-append_seam xs ys) (All-take (λ task. task < n) (length xs) (xs ++ ys) below)

behind : (n : ℕ) (xs ys : List ℕ) → AreBelow n (xs ++ ys) → AreBelow n ys
behind n xs ys below = subst (AreBelow n) (drop-append_seam xs ys) (All-drop (λ task. task < n) (length xs) (xs ++ ys) below)

pub takes : (n port : ℕ) (view : Unit {0}) (most : ℕ) → Takes (Holds n) port view most (λ xs _. AreBelow n xs)
takes n port view most xs items views _ _ below _ = (tt, behind n xs items below, front n xs items below)

pub pops : (n port : ℕ) (view : Unit {0}) → Pops (Holds n) port view (λ xs _. AreBelow n xs)
pops n port view x items views below _ = (tt, front n items (x ∷ []) below, behind n items (x ∷ []) below)
