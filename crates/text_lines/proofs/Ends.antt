-- The front of a list, and the end of its reverse.
use Rattle.std.proofs.Common.{◌≡◌, ℕ, ◌-◌, List, ◌++◌, length, take, drop, reverse, sym, ap, ◌∙◌}
use Rattle.std.proofs.lemmas.List.{take-append-drop, reverse-append, reverse-reverse, length-reverse, length-drop, take_at}

pub take-from_end : (xs : List ℕ) (n : ℕ) → take (length xs - n) xs ≡ reverse (drop n (reverse xs))
take-from_end xs n =
    let front = reverse (drop n (reverse xs)) in
    let back = reverse (take n (reverse xs)) in
    let whole : front ++ back ≡ xs = sym (reverse-append (take n (reverse xs)) (drop n (reverse xs))) ∙ ap reverse (take-append-drop n (reverse xs)) ∙ reverse-reverse xs in
    let len : length front ≡ length xs - n = length-reverse (drop n (reverse xs)) ∙ length-drop n (reverse xs) ∙ ap (λ k. k - n) (length-reverse xs) in
    ap (λ ys. take (length xs - n) ys) (sym whole) ∙ take_at front back (length xs - n) len
