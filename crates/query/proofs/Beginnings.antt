-- Of two beginnings of one list the shorter begins the longer.
use Rattle.std.proofs.Common.{◌≡◌, ℕ, ◌≤◌, List, [], ◌∷◌, length, Bool, true, false, MatchBool, refl, arith}
use Rattle.std.proofs.lemmas.Bool.Decides.{nat_tests}
use mathlib.Core.List.{IsPrefix}
use lib.Dec.{leb}

module _ {A : Type 0} where
  begins : (xs ys whole : List A) → IsPrefix xs whole → IsPrefix ys whole → length xs ≤ length ys → IsPrefix xs ys
  begins [] ys whole p q shorter = (ys, refl)
  begins (x ∷ xs) [] whole p q shorter = absurd (omega arith)
  begins (x ∷ xs) (y ∷ ys) [] p q shorter = absurd (cc (p.1))
  begins (x ∷ xs) (y ∷ ys) (z ∷ whole) p q shorter =
      let same : x ≡ y = cc (p.1, q.1) in
      let rest = begins xs ys whole (p.0, cc (p.1)) (q.0, cc (q.1)) (omega arith) in
      (rest.0, cc (same, rest.1))

  -- one that is as long as the list is the list
  pub is_whole : (xs whole : List A) → IsPrefix xs whole → length whole ≤ length xs → xs ≡ whole
  is_whole [] [] p as_long = refl
  is_whole [] (z ∷ whole) p as_long = absurd (omega arith)
  is_whole (x ∷ xs) [] p as_long = absurd (cc (p.1))
  is_whole (x ∷ xs) (z ∷ whole) p as_long =
      let rest = is_whole xs whole (p.0, cc (p.1)) (omega arith) in cc (p.1, rest)

  by_test : (test : Bool) (m n : ℕ) → leb m n ≡ test → (xs ys whole : List A) → m ≡ length xs → n ≡ length ys → IsPrefix xs whole → IsPrefix ys whole
      → MatchBool test (IsPrefix xs ys) (IsPrefix ys xs)
  by_test true m n is xs ys whole m_is n_is p q = let less : m ≤ n = grind (arith, nat_tests) in begins xs ys whole p q (omega arith)
  by_test false m n is xs ys whole m_is n_is p q = let more : n ≤ m = grind (arith, nat_tests) in begins ys xs whole q p (omega arith)

  pub by_lengths : (m n : ℕ) (xs ys whole : List A) → m ≡ length xs → n ≡ length ys → IsPrefix xs whole → IsPrefix ys whole
      → MatchBool (leb m n) (IsPrefix xs ys) (IsPrefix ys xs)
  by_lengths m n = by_test (leb m n) m n refl
