-- Lists whose elements all have a property.
use Rattle.std.proofs.Common.{Bool, true, false, cond, List, [], ◌∷◌, ◌++◌, map, Some}
use Rattle.std.specs.Prelude.{IfSome, find}
use Rattle.std.specs.List.{AllByRecursion}

pub all-append : {A : Type 0} (P : A → Type 0) (xs ys : List A) → AllByRecursion P xs → AllByRecursion P ys → AllByRecursion P (xs ++ ys)
all-append P [] ys h k = k
all-append P (x ∷ xs) ys h k = (h.0, all-append P xs ys h.1 k)

-- the results for each
pub all-map : {A B : Type 0} (P : A → Type 0) (Q : B → Type 0) (f : A → B) → ((x : A) → P x → Q (f x)) → (xs : List A) → AllByRecursion P xs → AllByRecursion Q (map f xs)
all-map P Q f gives [] h = tt
all-map P Q f gives (x ∷ xs) h = (gives x h.0, all-map P Q f gives xs h.1)

-- the first that passes a test
pub all-find : {A : Type 0} (P : A → Type 0) (test : A → Bool) (xs : List A) → AllByRecursion P xs → IfSome (find test xs) P
all-find P test [] h = tt
all-find P test (x ∷ xs) h = by (test x) h.0 (all-find P test xs h.1)
  where
    by : (b : Bool) → P x → IfSome (find test xs) P → IfSome (cond b (Some x) (find test xs)) P
    by true first rest = first
    by false first rest = rest
