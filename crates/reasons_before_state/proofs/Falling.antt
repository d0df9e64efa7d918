-- Nothing falls behind the last result.
use Rattle.std.proofs.Common.{◌≡◌, ℕ, zero, suc, ◌≤◌, List, [], ◌∷◌, map, drop, length, None, Option, refl, arith}
use Rattle.transaction.specs.declared.transaction.KeyVersion.{KeyVersion}
use Rattle.reasons.specs.Form.{first_fallen}

pub none_behind : (place : ℕ) (xs : List KeyVersion) (n : ℕ) → length xs ≤ suc n → ◌≡◌ {A = Option (ℕ × List ℕ)} (first_fallen place (map (λ x. x.key) (drop n xs))) None
none_behind place [] zero le = refl
none_behind place [] (suc n) le = refl
none_behind place (x ∷ []) zero le = refl
none_behind place (x ∷ y ∷ ys) zero le = absurd (omega arith)
none_behind place (x ∷ xs) (suc n) le = none_behind place xs n (omega arith)
