-- Fields of a fixed size: what is read is what was encoded, what was encoded is read again, and too few bytes are
-- rejected.
use Rattle.std.proofs.Common.{◌≡◌, ℕ, ◌^◌, ◌<◌, ◌≤◌, false, ltb, List, ◌++◌, length, take, drop, Ok, Err, refl, sym, ap, subst, ◌∙◌, arith, inl, inr}
use Rattle.std.proofs.lemmas.Bool.{ltb-false, ltb-true, le-ltb, lt-ltb}
use Rattle.std.proofs.lemmas.List.{take_at, drop_at, take-append-drop, length-append, length-take}
use Rattle.byteorder.specs.Endian.{big_bytes, big_number}
use Rattle.byteorder.specs.Numbers.{big_number-reads_back, length-bytes_high_first, big_from-lt, big_from-take}
use Rattle.values.proofs.Numbers.{IsBytes, IsBytes-take, IsWide}
use Rattle.block.specs.declared.fault.BlockFault.{BlockFault}
use Rattle.block.specs.declared.fault.BlockFault.TheVariants.{Truncated}
use Rattle.block.specs.Reading.{bytes_at, number_at}
use Rattle.block.proofs.Steps.{refused_ok, refused_err, ok_is, ok_not_err}

-- ---- n bytes

pub bytes_taken : (n : ℕ) (bytes : List ℕ) (x : List ℕ × List ℕ) → bytes_at n bytes ≡ Ok x → (bytes ≡ x.0 ++ x.1) × (length x.0 ≡ n)
bytes_taken n bytes x e =
    let g = refused_ok (ltb (length bytes) n) Truncated (Ok (take n bytes, drop n bytes)) x e in
    let long : n ≤ length bytes = ltb-false _ _ g.0 in
    let whole : (bytes ≡ take n bytes ++ drop n bytes) × (length (take n bytes) ≡ n) = (sym (take-append-drop n bytes), omega (arith, length-take n bytes)) in
    subst (λ (p : List ℕ × List ℕ). (bytes ≡ p.0 ++ p.1) × (length p.0 ≡ n)) (ok_is (take n bytes, drop n bytes) x g.1) whole

pub bytes_again : (n : ℕ) (x rest : List ℕ) → length x ≡ n → bytes_at n (x ++ rest) ≡ Ok (x, rest)
bytes_again n x rest len =
    let long : ltb (length (x ++ rest)) n ≡ false = le-ltb _ _ (omega (arith, length-append x rest)) in
    rw (long, take_at x rest n len, drop_at x rest n len) refl

pub bytes_fail : (n : ℕ) (bytes : List ℕ) (f : BlockFault) → bytes_at n bytes ≡ Err f → (Truncated ≡ f) × (length bytes < n)
bytes_fail n bytes f e =
    elim (refused_err (ltb (length bytes) n) Truncated f (Ok (take n bytes, drop n bytes)) e) [
      | inl g ↦ (g.1, ltb-true _ _ g.0)
      | inr g ↦ absurd (ok_not_err _ f g.1)
    ]

pub bytes_fail_again : (n : ℕ) (bytes : List ℕ) → length bytes < n → bytes_at n bytes ≡ Err Truncated
bytes_fail_again n bytes lt = rw (lt-ltb _ _ lt) refl

-- ---- a number in n bytes

pub number_taken : (k : ℕ) (wide : IsWide k) (bytes : List ℕ) (x : ℕ × List ℕ) → IsBytes bytes → number_at k bytes ≡ Ok x → (bytes ≡ big_bytes k x.0 ++ x.1) × (x.0 < 256 ^ k)
number_taken k wide bytes x fits e =
    let g = refused_ok (ltb (length bytes) k) Truncated (Ok (big_number k bytes, drop k bytes)) x e in
    let long : k ≤ length bytes = ltb-false _ _ g.0 in
    let front : big_number k (take k bytes) ≡ big_number k bytes = big_from-take 0 k k bytes (omega arith) in
    let same : big_bytes k (big_number k bytes) ≡ take k bytes = ap (big_bytes k) (sym front) ∙ wide.back (take k bytes) (omega (arith, length-take k bytes)) (IsBytes-take k bytes fits) in
    let whole : (bytes ≡ big_bytes k (big_number k bytes) ++ drop k bytes) × (big_number k bytes < 256 ^ k) = (sym (take-append-drop k bytes) ∙ ap (λ (t : List ℕ). t ++ drop k bytes) (sym same), big_from-lt 0 k bytes fits) in
    subst (λ (p : ℕ × List ℕ). (bytes ≡ big_bytes k p.0 ++ p.1) × (p.0 < 256 ^ k)) (ok_is (big_number k bytes, drop k bytes) x g.1) whole

pub number_again : (k n : ℕ) (rest : List ℕ) → n < 256 ^ k → number_at k (big_bytes k n ++ rest) ≡ Ok (n, rest)
number_again k n rest lt =
    let len : length (big_bytes k n) ≡ k = length-bytes_high_first k n in
    let long : ltb (length (big_bytes k n ++ rest)) k ≡ false = le-ltb _ _ (omega (arith, length-append (big_bytes k n) rest)) in
    rw (long, big_number-reads_back k n rest lt, drop_at (big_bytes k n) rest k len) refl

pub number_fails : (k : ℕ) (bytes : List ℕ) (f : BlockFault) → number_at k bytes ≡ Err f → (Truncated ≡ f) × (length bytes < k)
number_fails k bytes f e =
    elim (refused_err (ltb (length bytes) k) Truncated f (Ok (big_number k bytes, drop k bytes)) e) [
      | inl g ↦ (g.1, ltb-true _ _ g.0)
      | inr g ↦ absurd (ok_not_err _ f g.1)
    ]

pub number_fails_again : (k : ℕ) (bytes : List ℕ) → length bytes < k → number_at k bytes ≡ Err Truncated
number_fails_again k bytes lt = rw (lt-ltb _ _ lt) refl
