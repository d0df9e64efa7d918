-- One bit of a word is set or cleared, and the lowest bit that is set.
use Rattle.std.proofs.Common.{◌≡◌, ◌≢◌, ◌⊎◌, inl, inr, ℕ, ◌*◌, ◌%◌, ◌^◌, ◌<◌, eqb, true, false, cond, sym, ap, ◌∙◌, w64}
use Rattle.std.specs.Int.{bit_at, bit_not}
use Rattle.std.specs.Prelude.{bit_and, bit_or, ◌==◌}
use Rattle.std.proofs.lemmas.Bool.Decides.{eqb_tells}
use Rattle.std.proofs.lemmas.Nat.Bits.{bit_at_set_same, bit_at_set_other, bit_at_clear_same, bit_at_clear_other}

pub bit_set : (n k i : ℕ) → k < 64 → i < 64 → (bit_at (bit_or n (1 * 2 ^ k % 2 ^ 64)) i == 1) ≡ cond (i == k) true (bit_at n i == 1)
bit_set n k i lt within = by (eqb_tells i k)
  where
    by : ((eqb i k ≡ true) × (i ≡ k)) ⊎ ((eqb i k ≡ false) × (i ≢ k)) → (bit_at (bit_or n (1 * 2 ^ k % 2 ^ 64)) i == 1) ≡ cond (i == k) true (bit_at n i == 1)
    by (inl d) = ap (λ (j : ℕ). bit_at (bit_or n (1 * 2 ^ k % 2 ^ 64)) j == 1) d.1 ∙ ap (λ (x : ℕ). x == 1) (bit_at_set_same w64 n k lt) ∙ ap (λ b. cond b true (bit_at n i == 1)) (sym d.0)
    by (inr d) = ap (λ (x : ℕ). x == 1) (bit_at_set_other w64 n k lt i d.1) ∙ ap (λ b. cond b true (bit_at n i == 1)) (sym d.0)

pub bit_cleared : (n k i : ℕ) → k < 64 → i < 64 → (bit_at (bit_and n (bit_not w64 (1 * 2 ^ k % 2 ^ 64))) i == 1) ≡ cond (i == k) false (bit_at n i == 1)
bit_cleared n k i lt within = by (eqb_tells i k)
  where
    by : ((eqb i k ≡ true) × (i ≡ k)) ⊎ ((eqb i k ≡ false) × (i ≢ k)) → (bit_at (bit_and n (bit_not w64 (1 * 2 ^ k % 2 ^ 64))) i == 1) ≡ cond (i == k) false (bit_at n i == 1)
    by (inl d) = ap (λ (j : ℕ). bit_at (bit_and n (bit_not w64 (1 * 2 ^ k % 2 ^ 64))) j == 1) d.1 ∙ ap (λ (x : ℕ). x == 1) (bit_at_clear_same w64 n k lt) ∙ ap (λ b. cond b false (bit_at n i == 1)) (sym d.0)
    by (inr d) = ap (λ (x : ℕ). x == 1) (bit_at_clear_other w64 n k lt i within d.1) ∙ ap (λ b. cond b false (bit_at n i == 1)) (sym d.0)
