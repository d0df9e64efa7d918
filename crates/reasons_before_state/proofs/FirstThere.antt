-- The first that is there, item by item.
use Rattle.std.proofs.Common.{◌≡◌, ℕ, suc, ◌<◌, List, map, drop, length, get_or, Option, Some, sym, ap, ◌∙◌, drop-cons}
use Rattle.std.specs.Option.{option_or}
use Rattle.reasons.specs.First.{first_there}

pub first_is : {A B : Type 0} (f : A → Option B) (xs : List A) (i : ℕ) (x : A) (y : B) → i < length xs → x ≡ get_or xs i x → f x ≡ Some y → first_there (map f (drop i xs)) ≡ Some y
first_is {A} {B} f xs i x y lt is found =
    ap (λ (l : List A). first_there (map f l)) (drop-cons xs i x lt)
    ∙ ap (λ (z : A). option_or (f z) (first_there (map f (drop (suc i) xs)))) (sym is)
    ∙ ap (λ (o : Option B). option_or o (first_there (map f (drop (suc i) xs)))) found
