-- Lists that are made piece by piece.
use Rattle.std.proofs.Common.{◌≡◌, ℕ, ◌+◌, ◌<◌, List, [], ◌∷◌, ◌++◌, length, take, get_or, sym, ap, ◌∙◌}
use Rattle.std.specs.Prelude.{flat_map}
use Rattle.std.proofs.lemmas.List.{take_more, flat_map_more}

-- one piece more behind those so far
pub one_piece : {X A : Type 0} (f : X → List A) (xs : List X) (i : ℕ) (x : X) (start now next : List A) → i < length xs → x ≡ get_or xs i x
    → now ≡ start ++ flat_map f (take i xs) → next ≡ now ++ f x → next ≡ start ++ flat_map f (take (i + 1) xs)
one_piece f xs i x start now next lt is h e =
    e ∙ ap (λ l. l ++ f x) h ∙ flat_map_more f start (take i xs) x ∙ ap (λ l. start ++ flat_map f l) (sym (take_more xs i x lt ∙ ap (λ y. take i xs ++ y ∷ []) (sym is)))
