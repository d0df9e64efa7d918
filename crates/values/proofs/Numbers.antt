-- Lists of bytes, and the numbers that they spell, the highest byte first.
use Rattle.std.proofs.Common.{◌≡◌, ℕ, ◌+◌, ◌*◌, ◌%◌, ◌^◌, ◌<◌, List, [], ◌∷◌, ◌++◌, length, get_or, take, drop, refl, ap, ◌∙◌, arith, inl, inr}
use Rattle.std.proofs.lemmas.Bool.{cases_lt}
use Rattle.std.proofs.lemmas.List.{drop_at, length-take, get_or-drop, get_or-take, get_or_past}
use Rattle.std.proofs.lemmas.Nat.{be_bytes_2, be_bytes_4, be_bytes_8}
use Rattle.byteorder.specs.Endian.{big_bytes, big_number}

abbrev pub IsBytes : List ℕ → Type 0
IsBytes bytes = (i : ℕ) → get_or bytes i 0 < 256

pub IsBytes-take : (n : ℕ) (bytes : List ℕ) → IsBytes bytes → IsBytes (take n bytes)
IsBytes-take n bytes h i =
    elim (cases_lt i n) [
      | inl lt ↦ rw (get_or-take n bytes i 0 lt) (h i)
      | inr le ↦ rw (get_or_past (take n bytes) i 0 (omega (arith, length-take n bytes))) (omega arith)
    ]

-- what stands behind a front
pub IsBytes-behind : (front rest bytes : List ℕ) → IsBytes bytes → bytes ≡ front ++ rest → IsBytes rest
IsBytes-behind front rest bytes h e i =
    let at : get_or (drop (length front) bytes) i 0 ≡ get_or rest i 0 = ap (λ (b : List ℕ). get_or (drop (length front) b) i 0) e ∙ ap (λ (b : List ℕ). get_or b i 0) (drop_at front rest (length front) refl) in
    rw (← at, get_or-drop) (h (length front + i))

-- so many bytes spell the number that they are read as
pub record IsWide (k : ℕ) : Type 0 where
  pub back : (bytes : List ℕ) → length bytes ≡ k → IsBytes bytes → big_bytes k (big_number k bytes) ≡ bytes

pub wide1 : IsWide 1
wide1 = record { back = back }
  where
    back : (bytes : List ℕ) → length bytes ≡ 1 → IsBytes bytes → big_bytes 1 (big_number 1 bytes) ≡ bytes
    back [] len fits = absurd (omega arith)
    back (b ∷ []) len fits = let same : (b * 256 ^ 0 + 0) % 256 ≡ b = omega (arith, fits 0) in ap (λ (n : ℕ). n ∷ []) same
    back (b ∷ c ∷ more) len fits = absurd (omega arith)

pub wide2 : IsWide 2
wide2 = record { back = λ bytes len fits. be_bytes_2 bytes (big_number 2 bytes) len fits (omega arith) }

pub wide4 : IsWide 4
wide4 = record { back = λ bytes len fits. be_bytes_4 bytes (big_number 4 bytes) len fits (omega arith) }

pub wide8 : IsWide 8
wide8 = record { back = λ bytes len fits. be_bytes_8 bytes (big_number 8 bytes) len fits (omega arith) }
