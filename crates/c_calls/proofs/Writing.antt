-- A list that is written from the front.
use Rattle.std.proofs.Common.{◌≡◌, ℕ, suc, ◌+◌, ◌<◌, List, [], ◌∷◌, ◌++◌, length, map, take, drop, get_or, sym, ap, ◌∙◌, arith}
use Rattle.std.proofs.Math.ListN.{set}
use Rattle.std.proofs.Math.Seq.{drop-cons, set-append_seam}
use Rattle.std.proofs.lemmas.List.{append_assoc, length-map, length-take-le, map-append, take_more}

-- one more item written at its place
pub write_one : {X Y : Type 0} (f : X → Y) (xs : List X) (out : List Y) (i : ℕ) (d : X) → i < length xs → i < length out
    → set (map f (take i xs) ++ drop i out) i (f (get_or xs i d)) ≡ map f (take (i + 1) xs) ++ drop (i + 1) out
write_one {X} {Y} f xs out i d here there =
    let x = get_or xs i d in
    let front = map f (take i xs) in
    let old = get_or out i (f x) in
    let rest = drop (i + 1) out in
    let at : length front ≡ i = length-map (take i xs) f ∙ length-take-le i xs (omega arith) in
    let next : suc i ≡ i + 1 = omega arith in
    let split : drop i out ≡ old ∷ rest = drop-cons out i (f x) there ∙ ap (λ k. old ∷ drop k out) next in
    let longer : map f (take (i + 1) xs) ≡ front ++ f x ∷ [] = ap (map f) (take_more xs i d here) ∙ map-append f (take i xs) (x ∷ []) in
    ap (λ zs. set (front ++ zs) i (f x)) split
    ∙ ap (λ k. set (front ++ old ∷ rest) k (f x)) (sym at)
    ∙ set-append_seam front old rest (f x)
    ∙ sym (append_assoc front (f x ∷ []) rest)
    ∙ ap (λ zs. zs ++ rest) (sym longer)
