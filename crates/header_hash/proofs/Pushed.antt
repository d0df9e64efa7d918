-- A buffer's first bytes, with an element written after them.
use Rattle.std.proofs.Common.{◌≡◌, ℕ, ◌+◌, List, ◌++◌, length, take, ap, ◌∙◌, append_assoc, length-append, arith}
use Rattle.std.proofs.lemmas.List.{take_at}

-- the bytes in front and the element, no matter what follows them
pub pushed : (front element rest after written : List ℕ) (n k : ℕ) → length front ≡ n → length element ≡ k → written ≡ element ++ rest
    → take (n + k) (front ++ (written ++ after)) ≡ front ++ element
pushed front element rest after written n k front_len element_len is =
    let regrouped : front ++ ((element ++ rest) ++ after) ≡ (front ++ element) ++ (rest ++ after) = simp append_assoc in
    ap (λ (w : List ℕ). take (n + k) (front ++ (w ++ after))) is ∙ ap (take (n + k)) regrouped
    ∙ take_at (front ++ element) (rest ++ after) (n + k) (omega (arith, length-append front element))
