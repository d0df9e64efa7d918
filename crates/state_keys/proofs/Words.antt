-- Bytes that are compared eight at a time, as numbers.
use Rattle.std.proofs.Common.{◌≡◌, ℕ, zero, suc, ◌+◌, ◌*◌, ◌<◌, ◌≤◌, List, [], ◌∷◌, length, get_or, take, drop, refl, sym, ap, ◌∙◌, length-drop, true, false, arith}
use Rattle.std.specs.declared.cmp.Ordering.{Ordering}
use Rattle.std.specs.declared.cmp.Ordering.TheVariants.{Less, Equal, Greater}
use Rattle.std.specs.Ordering.{nat_cmp, ordering_then, is_ne, MatchOrdering}
use Rattle.std.specs.Cmp.{nat_cmp_is, ranks}
use Rattle.std.proofs.lemmas.List.{get_or-drop}
use Rattle.values.specs.Order.{bytes_cmp}
use Rattle.state_keys.specs.Head.{big_endian, word_at}

abbrev pub AreBytes : List ℕ → Type 0
AreBytes bytes = (i : ℕ) → get_or bytes i 0 < 256

-- ---- a word by its bytes

eight : (xs : List ℕ) → 8 ≤ length xs
    → get_or xs 0 0 * 72057594037927936 + get_or xs 1 0 * 281474976710656 + get_or xs 2 0 * 1099511627776 + get_or xs 3 0 * 4294967296
    + get_or xs 4 0 * 16777216 + get_or xs 5 0 * 65536 + get_or xs 6 0 * 256 + get_or xs 7 0 ≡ big_endian 0 (take 8 xs)
eight [] h = absurd (omega arith)
eight (a ∷ []) h = absurd (omega arith)
eight (a ∷ b ∷ []) h = absurd (omega arith)
eight (a ∷ b ∷ c ∷ []) h = absurd (omega arith)
eight (a ∷ b ∷ c ∷ d ∷ []) h = absurd (omega arith)
eight (a ∷ b ∷ c ∷ d ∷ e ∷ []) h = absurd (omega arith)
eight (a ∷ b ∷ c ∷ d ∷ e ∷ f ∷ []) h = absurd (omega arith)
eight (a ∷ b ∷ c ∷ d ∷ e ∷ f ∷ g ∷ []) h = absurd (omega arith)
eight (a ∷ b ∷ c ∷ d ∷ e ∷ f ∷ g ∷ x ∷ xs) h = omega arith

pub word_is : (xs : List ℕ) (i : ℕ) → i + 8 ≤ length xs
    → get_or xs i 0 * 72057594037927936 + get_or xs (i + 1) 0 * 281474976710656 + get_or xs (i + 2) 0 * 1099511627776 + get_or xs (i + 3) 0 * 4294967296
    + get_or xs (i + 4) 0 * 16777216 + get_or xs (i + 5) 0 * 65536 + get_or xs (i + 6) 0 * 256 + get_or xs (i + 7) 0 ≡ word_at xs i
word_is xs i h =
    let at : (k : ℕ) → get_or (drop i xs) k 0 ≡ get_or xs (i + k) 0 = λ k. get_or-drop i xs k 0 in
    let here : get_or xs (i + 0) 0 ≡ get_or xs i 0 = ap (λ (k : ℕ). get_or xs k 0) (omega arith) in
    let word = eight (drop i xs) (omega (arith, length-drop i xs)) in
    omega (arith, here, word, at 0, at 1, at 2, at 3, at 4, at 5, at 6, at 7)

-- ---- words in order

then_then : (o p q : Ordering) → ordering_then (ordering_then o p) q ≡ ordering_then o (ordering_then p q)
then_then Less p q = refl
then_then Equal p q = refl
then_then Greater p q = refl

longer : (p q x y : ℕ) → x < 256 → y < 256 → nat_cmp (p * 256 + x) (q * 256 + y) ≡ ordering_then (nat_cmp p q) (nat_cmp x y)
longer p q x y h g = by (nat_cmp p q) (ranks p q) (nat_cmp x y) (ranks x y)
  where
    by : (o : Ordering) → MatchOrdering o (p < q) (p ≡ q) (q < p) → (r : Ordering) → MatchOrdering r (x < y) (x ≡ y) (y < x) → nat_cmp (p * 256 + x) (q * 256 + y) ≡ ordering_then o r
    by Less s r t = let lt : p < q = s in sym (nat_cmp_is (p * 256 + x) (q * 256 + y) Less (omega (arith, lt)))
    by Equal s Less t = let same : p ≡ q = s in let lt : x < y = t in sym (nat_cmp_is (p * 256 + x) (q * 256 + y) Less (omega (arith, same, lt)))
    by Equal s Equal t = let same : p ≡ q = s in let too : x ≡ y = t in sym (nat_cmp_is (p * 256 + x) (q * 256 + y) Equal (omega (arith, same, too)))
    by Equal s Greater t = let same : p ≡ q = s in let lt : y < x = t in sym (nat_cmp_is (p * 256 + x) (q * 256 + y) Greater (omega (arith, same, lt)))
    by Greater s r t = let lt : q < p = s in sym (nat_cmp_is (p * 256 + x) (q * 256 + y) Greater (omega (arith, lt)))

pub by_words : (n p q : ℕ) (xs ys : List ℕ) → AreBytes xs → AreBytes ys → n ≤ length xs → n ≤ length ys
    → ordering_then (nat_cmp (big_endian p (take n xs)) (big_endian q (take n ys))) (bytes_cmp (drop n xs) (drop n ys)) ≡ ordering_then (nat_cmp p q) (bytes_cmp xs ys)
by_words zero p q xs ys a b h g = refl
by_words (suc n) p q [] ys a b h g = absurd (omega arith)
by_words (suc n) p q (x ∷ xs) [] a b h g = absurd (omega arith)
by_words (suc n) p q (x ∷ xs) (y ∷ ys) a b h g =
    by_words n (p * 256 + x) (q * 256 + y) xs ys (λ i. a (suc i)) (λ i. b (suc i)) (omega arith) (omega arith)
    ∙ ap (λ (o : Ordering). ordering_then o (bytes_cmp xs ys)) (longer p q x y (a 0) (b 0))
    ∙ then_then (nat_cmp p q) (nat_cmp x y) (bytes_cmp xs ys)

-- from a place on: the word there, and what is behind it
pub at_word : (xs ys : List ℕ) (i : ℕ) → AreBytes xs → AreBytes ys → i + 8 ≤ length xs → i + 8 ≤ length ys
    → bytes_cmp (drop i xs) (drop i ys) ≡ ordering_then (nat_cmp (word_at xs i) (word_at ys i)) (bytes_cmp (drop (i + 8) xs) (drop (i + 8) ys))
at_word xs ys zero a b h g = sym (by_words 8 0 0 xs ys a b h g)
at_word [] ys (suc i) a b h g = absurd (omega arith)
at_word (x ∷ xs) [] (suc i) a b h g = absurd (omega arith)
at_word (x ∷ xs) (y ∷ ys) (suc i) a b h g =
    let next : i + 8 + 1 ≡ suc i + 8 = omega arith in
    let one : i + 8 + 1 ≡ suc (i + 8) = omega arith in
    at_word xs ys i (λ j. a (suc j)) (λ j. b (suc j)) (omega arith) (omega arith)
    ∙ ap (λ (n : ℕ). ordering_then (nat_cmp (word_at xs i) (word_at ys i)) (bytes_cmp (drop n (x ∷ xs)) (drop n (y ∷ ys)))) (sym one ∙ next)

-- words that differ decide, and others leave it to what is behind them
pub decides : (o r : Ordering) → is_ne o ≡ true → ordering_then o r ≡ o
decides Less r e = refl
decides Equal r e = absurd cc
decides Greater r e = refl

pub passes : (o r : Ordering) → is_ne o ≡ false → ordering_then o r ≡ r
passes Less r e = absurd cc
passes Equal r e = refl
passes Greater r e = absurd cc
