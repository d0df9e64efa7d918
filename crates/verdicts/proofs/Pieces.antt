-- Pieces of a pool.
use Rattle.std.proofs.Common.{◌≡◌, ℕ, ◌+◌, ◌-◌, Bool, true, cond, List, [], ◌++◌, length, take, drop, ap, ◌∙◌, arith}
use Rattle.std.specs.Prelude.{◌&&◌, nat_le}
use Rattle.std.proofs.lemmas.Bool.{le-leb}
use Rattle.std.proofs.lemmas.List.{length-append}
use Rattle.std.proofs.Math.Seq.{drop-append_seam, take-append_seam}
use Rattle.verdicts.specs.Said.{piece}

both_true : (a b : Bool) → a ≡ true → b ≡ true → (a && b) ≡ true
both_true a b p q = (λ i. p i && b) ∙ q

-- the piece between two lists is what stands there
pub cut : (pool front x rest : List ℕ) (n : ℕ) → pool ≡ front ++ (x ++ rest) → n ≡ length front → piece pool (record { at = n; len = length x }) ≡ x
cut pool front x rest n whole at =
    let size : length pool ≡ length front + (length x + length rest) = ap length whole ∙ length-append front (x ++ rest) ∙ ap (λ m. length front + m) (length-append x rest) in
    let inside : (nat_le n (length pool) && nat_le (length x) (length pool - n)) ≡ true =
    both_true (nat_le n (length pool)) (nat_le (length x) (length pool - n)) (le-leb n (length pool) (omega (arith, size, at))) (le-leb (length x) (length pool - n) (omega (arith, size, at))) in
    let behind : drop n pool ≡ x ++ rest = (λ i. drop (at i) (whole i)) ∙ drop-append_seam front (x ++ rest) in
    ap (λ (b : Bool). cond b (take (length x) (drop n pool)) []) inside ∙ ap (take (length x)) behind ∙ take-append_seam x rest
