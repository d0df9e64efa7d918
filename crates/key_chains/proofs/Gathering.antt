-- What each of a list's items gives, one behind the other.
use Rattle.std.proofs.Common.{◌≡◌, ℕ, ◌+◌, ◌<◌, List, [], ◌∷◌, ◌++◌, length, get_or, map, take, sym, ap, ◌∙◌}
use Rattle.std.specs.Prelude.{flat_map}
use Rattle.std.proofs.lemmas.List.{take_more, append-nil, append_assoc, map-append}
use Rattle.std.proofs.lemmas.Grind.{flat_map-append}
use Rattle.std.proofs.lemmas.List.Concat.{flat_map-cons}

one_gives : {X Y : Type 0} (f : X → List Y) (x : X) → flat_map f (x ∷ []) ≡ f x
one_gives f x = flat_map-cons f x [] ∙ append-nil (f x)

-- one item more of a loop
pub one_more : {X Y : Type 0} (f : X → List Y) (start old new : List Y) (xs : List X) (i : ℕ) (x : X) → i < length xs → x ≡ get_or xs i x → old ≡ start ++ flat_map f (take i xs) → new ≡ old ++ f x
    → new ≡ start ++ flat_map f (take (i + 1) xs)
one_more f start old new xs i x lt is so_far step =
    step ∙ ap (λ ys. ys ++ f x) so_far ∙ append_assoc start (flat_map f (take i xs)) (f x)
    ∙ ap (λ ys. start ++ ys) (sym (
    ap (flat_map f) (take_more xs i x lt) ∙ flat_map-append f (take i xs) (get_or xs i x ∷ [])
    ∙ ap (λ ys. flat_map f (take i xs) ++ ys) (one_gives f (get_or xs i x) ∙ ap f (sym is))))

-- one item more of a list that is mapped
pub one_mapped : {X Y : Type 0} (f : X → Y) (start : List Y) (xs : List X) (i : ℕ) (x : X) → i < length xs → x ≡ get_or xs i x → start ++ map f (take (i + 1) xs) ≡ (start ++ map f (take i xs)) ++ f x ∷ []
one_mapped f start xs i x lt is =
    ap (λ ys. start ++ map f ys) (take_more xs i x lt) ∙ ap (λ ys. start ++ ys) (map-append f (take i xs) (get_or xs i x ∷ []))
    ∙ sym (append_assoc start (map f (take i xs)) (f (get_or xs i x) ∷ [])) ∙ ap (λ y. (start ++ map f (take i xs)) ++ f y ∷ []) (sym is)
