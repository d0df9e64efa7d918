-- How many lead up to a key.
use Rattle.std.proofs.Common.{◌≡◌, ℕ, zero, suc, ◌<◌, ◌≤◌, Bool, true, false, List, [], ◌∷◌, ◌||◌, length, get_or, drop, ◌+◌, refl, sym, ap, subst, ◌∙◌, arith}
use Rattle.std.specs.Prelude.{if◌then◌else◌}
use Rattle.std.specs.List.{list_any}
use Rattle.state_db.specs.Search.{leading, Falls}

module _ {X : Type 0} (test : X → Bool) where
  pub leading-le : (xs : List X) → leading test xs ≤ length xs
  leading-le [] = omega arith
  leading-le (x ∷ xs) = by (test x) (leading-le xs)
    where
      by : (b : Bool) → leading test xs ≤ length xs → (if b then suc (leading test xs) else 0) ≤ suc (length xs)
      by true h = omega arith
      by false h = omega arith

  -- one that fails isn't led over
  pub fails_at : (xs : List X) (i : ℕ) (d : X) → i < length xs → test (get_or xs i d) ≡ false → leading test xs ≤ i
  fails_at [] i d lt e = absurd (omega arith)
  fails_at (x ∷ xs) zero d lt e = subst (λ (b : Bool). (if b then suc (leading test xs) else 0) ≤ 0) (sym e) (omega arith)
  fails_at (x ∷ xs) (suc i) d lt e = by (test x) (fails_at xs i d (omega arith) e)
    where
      by : (b : Bool) → leading test xs ≤ i → (if b then suc (leading test xs) else 0) ≤ suc i
      by true h = omega arith
      by false h = omega arith

  any_at : (xs : List X) (i : ℕ) (d : X) → i < length xs → test (get_or xs i d) ≡ true → list_any test xs ≡ true
  any_at [] i d lt e = absurd (omega arith)
  any_at (x ∷ xs) zero d lt e = ap (λ (b : Bool). b || list_any test xs) e
  any_at (x ∷ xs) (suc i) d lt e = by (test x) (any_at xs i d (omega arith) e)
    where
      by : (b : Bool) → list_any test xs ≡ true → (b || list_any test xs) ≡ true
      by true h = refl
      by false h = h

  -- one that passes is, where none behind a failure passes
  pub passes_at : (xs : List X) (i : ℕ) (d : X) → Falls test xs → i < length xs → test (get_or xs i d) ≡ true → i < leading test xs
  passes_at [] i d h lt e = absurd (omega arith)
  passes_at (x ∷ xs) zero d h lt e = subst (λ (b : Bool). 0 < (if b then suc (leading test xs) else 0)) (sym e) (omega arith)
  passes_at (x ∷ xs) (suc i) d h lt e = by (test x) refl (passes_at xs i d h.1 (omega arith) e)
    where
      by : (b : Bool) → test x ≡ b → i < leading test xs → suc i < (if b then suc (leading test xs) else 0)
      by true s r = omega arith
      by false s r = absurd (let none = h.0 s in let some = any_at xs i d (omega arith) e in let wrong : false ≡ true = sym none ∙ some in cc)

  pub falls_drop : (n : ℕ) (xs : List X) → Falls test xs → Falls test (drop n xs)
  falls_drop zero xs h = h
  falls_drop (suc n) [] h = tt
  falls_drop (suc n) (x ∷ xs) h = falls_drop n xs h.1

  -- those that lead up to a place, and those from there on
  pub leading_drop : (n : ℕ) (xs : List X) → n ≤ leading test xs → n + leading test (drop n xs) ≡ leading test xs
  leading_drop zero xs h = omega arith
  leading_drop (suc n) [] h = absurd (omega arith)
  leading_drop (suc n) (x ∷ xs) h = by (test x) h (leading_drop n xs)
    where
      by : (b : Bool) → suc n ≤ (if b then suc (leading test xs) else 0) → (n ≤ leading test xs → n + leading test (drop n xs) ≡ leading test xs)
          → suc n + leading test (drop n xs) ≡ (if b then suc (leading test xs) else 0)
      by true h r = let more = r (omega arith) in omega (arith, more)
      by false h r = absurd (omega arith)
