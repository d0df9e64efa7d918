-- Lists whose elements stand in a relation to all behind them.
use Rattle.std.proofs.Common.{ℕ, zero, suc, ◌<◌, List, [], ◌∷◌, ◌++◌, length, get_or, arith}
use Rattle.std.specs.Prelude.{AllPairs}
use Rattle.std.specs.List.{AllByRecursion}

abbrev pub Pairwise : {X : Type 0} → (X → X → Type 0) → List X → Type 0
Pairwise R [] = Unit {0}
Pairwise R (x ∷ xs) = AllByRecursion (R x) xs × Pairwise R xs

pub all_more : {X : Type 0} (P Q : X → Type 0) → ((x : X) → P x → Q x) → (xs : List X) → AllByRecursion P xs → AllByRecursion Q xs
all_more P Q f [] h = tt
all_more P Q f (x ∷ xs) h = (f x h.0, all_more P Q f xs h.1)

pub all_append : {X : Type 0} (P : X → Type 0) (xs ys : List X) → AllByRecursion P xs → AllByRecursion P ys → AllByRecursion P (xs ++ ys)
all_append P [] ys g h = h
all_append P (x ∷ xs) ys g h = (g.0, all_append P xs ys g.1 h)

-- two lists, where each element of the first stands so to each of the second
pub pairwise_append : {X : Type 0} (R : X → X → Type 0) (P Q : X → Type 0) → ((x y : X) → P x → Q y → R x y)
    → (xs ys : List X) → AllByRecursion P xs → AllByRecursion Q ys → Pairwise R xs → Pairwise R ys → Pairwise R (xs ++ ys)
pairwise_append R P Q f [] ys p q g h = h
pairwise_append R P Q f (x ∷ xs) ys p q g h =
    (all_append (R x) xs ys g.0 (all_more Q (R x) (λ y k. f x y p.0 k) ys q), pairwise_append R P Q f xs ys p.1 q g.1 h)

pub pairwise_more : {X : Type 0} (R S : X → X → Type 0) → ((x y : X) → R x y → S x y) → (xs : List X) → Pairwise R xs → Pairwise S xs
pairwise_more R S f [] h = tt
pairwise_more R S f (x ∷ xs) h = (all_more (R x) (S x) (f x) xs h.0, pairwise_more R S f xs h.1)

all_at : {X : Type 0} (P : X → Type 0) (xs : List X) (i : ℕ) (d : X) → AllByRecursion P xs → i < length xs → P (get_or xs i d)
all_at P [] i d h lt = absurd (omega arith)
all_at P (x ∷ xs) zero d h lt = h.0
all_at P (x ∷ xs) (suc i) d h lt = all_at P xs i d h.1 (omega arith)

pub all_pairs : {X : Type 0} (R : X → X → Type 0) (xs : List X) → Pairwise R xs → AllPairs R xs
all_pairs R [] h i j d before within = absurd (omega arith)
all_pairs R (x ∷ xs) h i zero d before within = absurd (omega arith)
all_pairs R (x ∷ xs) h zero (suc j) d before within = all_at (R x) xs j d h.0 (omega arith)
all_pairs R (x ∷ xs) h (suc i) (suc j) d before within = all_pairs R xs h.1 i j d (omega arith) (omega arith)
