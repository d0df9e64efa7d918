-- Heads that differ tell the order of the keys.
use Rattle.std.proofs.Common.{◌≡◌, ℕ, zero, suc, ◌<◌, true, ◌&&◌, List, [], ◌∷◌, ◌++◌, ◌+◌, ◌-◌, ◌≤◌, inl, inr, length, get_or, take, drop, refl, sym, ap, subst, ◌∙◌, arith}
use Rattle.std.specs.Prelude.{IsTrue, nat_le, min, slice_set}
use Rattle.std.specs.declared.cmp.Ordering.{Ordering}
use Rattle.std.specs.declared.cmp.Ordering.TheVariants.{Less, Equal, Greater}
use Rattle.std.specs.Ordering.{nat_cmp, ordering_then, ordering_reverse, MatchOrdering}
use Rattle.std.specs.List.{list_all}
use Rattle.std.proofs.lemmas.Bool.{cases_lt}
use Rattle.std.proofs.lemmas.Bool.Decides.{nat_tests}
use Rattle.std.proofs.lemmas.List.{get_or_past}
use Rattle.std.specs.Cmp.{nat_cmp_is, nat_cmp_total, ranks}
use Rattle.std.specs.Cmp.Lexicographic.{nat_list_cmp_total}
use Rattle.values.specs.Order.{bytes_cmp}
use Rattle.values.specs.Name.{is_name_byte, is_name}
use Rattle.rules.specs.State.{StateKey, key_cmp}
use Rattle.rules.proofs.Booleans.{both_true}
use Rattle.rules.proofs.Keys.{key_cmp_total}
use Rattle.std.specs.FinMap.{slice_cmp-IsAntisymmetric, nat_cmp-IsAntisymmetric}
use Rattle.state_keys.specs.Head.{spelled, padded, head_of, is_whole}

-- ---- a head by its bytes

-- bytes that are at each place the string's, or zero behind it, and behind them a count
pub by_bytes : (n m : ℕ) (head bytes : List ℕ) → length head ≡ n + 1 → ((i : ℕ) → i < n → get_or head i 0 ≡ get_or bytes i 0) → slice_set head n m ≡ padded n bytes ++ m ∷ []
by_bytes n m [] bytes e h = absurd (omega arith)
by_bytes zero m (a ∷ []) bytes e h = refl
by_bytes zero m (a ∷ c ∷ head) bytes e h = absurd (omega arith)
by_bytes (suc n) m (a ∷ head) [] e h = λ i. h 0 (omega arith) i ∷ by_bytes n m head [] (omega arith) (λ j lt. h (suc j) (omega arith)) i
by_bytes (suc n) m (a ∷ head) (b ∷ bytes) e h = λ i. h 0 (omega arith) i ∷ by_bytes n m head bytes (omega arith) (λ j lt. h (suc j) (omega arith)) i

pub zeros_at : (n i : ℕ) → get_or (padded n []) i 0 ≡ 0
zeros_at zero i = refl
zeros_at (suc n) zero = refl
zeros_at (suc n) (suc i) = zeros_at n i

-- the string by its parts
in_front : (ns rest : List ℕ) (i : ℕ) → i < length ns → get_or (ns ++ rest) i 0 ≡ get_or ns i 0
in_front [] rest i lt = absurd (omega arith)
in_front (x ∷ ns) rest zero lt = refl
in_front (x ∷ ns) rest (suc i) lt = in_front ns rest i (omega arith)

between : (ns rest : List ℕ) (i : ℕ) → i ≡ length ns → get_or (ns ++ 0 ∷ rest) i 0 ≡ 0
between [] rest i e = ap (λ (j : ℕ). get_or (0 ∷ rest) j 0) e
between (x ∷ ns) rest zero e = absurd (omega arith)
between (x ∷ ns) rest (suc i) e = between ns rest i (omega arith)

in_rest : (ns rest : List ℕ) (i j : ℕ) → i ≡ length ns + 1 + j → get_or (ns ++ 0 ∷ rest) i 0 ≡ get_or rest j 0
in_rest [] rest i j e = ap (λ (k : ℕ). get_or (0 ∷ rest) k 0) (e ∙ next)
  where
    next : length {A = ℕ} [] + 1 + j ≡ suc j
    next = omega arith
in_rest (x ∷ ns) rest zero j e = absurd (omega arith)
in_rest (x ∷ ns) rest (suc i) j e = in_rest ns rest i j (omega arith)

-- a namespace over zeros, and a key behind it
pub by_parts : (ns key zeros one two : List ℕ) (from : ℕ) → from ≡ min (length ns) 22 + 1
    → ((i : ℕ) → get_or zeros i 0 ≡ 0)
    → ((i : ℕ) → i < length ns → 0 + i < 23 → get_or one (0 + i) 0 ≡ get_or ns i 0)
    → ((i : ℕ) → 0 + length ns ≤ i → get_or one i 0 ≡ get_or zeros i 0)
    → ((i : ℕ) → i < from → get_or two i 0 ≡ get_or one i 0)
    → ((i : ℕ) → i < length key → from + i < 23 → get_or two (from + i) 0 ≡ get_or key i 0)
    → ((i : ℕ) → from + length key ≤ i → get_or two i 0 ≡ get_or one i 0)
    → (i : ℕ) → i < 23 → get_or two i 0 ≡ get_or (ns ++ 0 ∷ key) i 0
by_parts ns key zeros one two from is none there behind before key_there key_behind i lt =
    elim (cases_lt i (length ns)) [
      | inl front ↦
          let at : 0 + i ≡ i = omega arith in
          before i (omega (arith, is)) ∙ ap (λ (j : ℕ). get_or one j 0) (sym at) ∙ there i front (omega arith) ∙ sym (in_front ns (0 ∷ key) i front)
      | inr past ↦ elim (cases_lt (length ns) i) [
        | inl more ↦ elim (cases_lt (i - from) (length key)) [
          | inl inside ↦
              let at : from + (i - from) ≡ i = omega (arith, is) in
              ap (λ (j : ℕ). get_or two j 0) (sym at) ∙ key_there (i - from) inside (omega (arith, is)) ∙ sym (in_rest ns key i (i - from) (omega (arith, is)))
          | inr over ↦
              key_behind i (omega (arith, is)) ∙ behind i (omega arith) ∙ none i ∙ sym (in_rest ns key i (i - from) (omega (arith, is)) ∙ get_or_past key (i - from) 0 over)
        ]
        | inr same ↦ before i (omega (arith, is)) ∙ behind i (omega arith) ∙ none i ∙ sym (between ns key i (omega arith))
      ]
    ]

-- ---- the order of heads

-- nothing is below zero
at_zero : (x : ℕ) → nat_cmp x 0 ≡ Less → ⊥
at_zero zero e = cc
at_zero (suc x) e = let above : Greater ≡ nat_cmp (suc x) 0 = nat_cmp_is (suc x) 0 Greater (omega arith) in let wrong : Greater ≡ Less = above ∙ e in cc

less_is : (x y : ℕ) → nat_cmp x y ≡ Less → x < y
less_is x y s = subst (λ (o : Ordering). MatchOrdering o (x < y) (x ≡ y) (y < x)) s (ranks x y)

-- no head stands before that of no bytes
none_before : (n : ℕ) (a : List ℕ) (p q : ℕ) → q ≤ p → bytes_cmp (padded n a ++ p ∷ []) (padded n [] ++ q ∷ []) ≡ Less → ⊥
none_before zero a p q le e = by (nat_cmp p q) refl e
  where
    by : (o : Ordering) → nat_cmp p q ≡ o → ordering_then o Equal ≡ Less → ⊥
    by Less s e = let lt = less_is p q s in omega (arith, lt, le)
    by Equal s e = cc
    by Greater s e = cc
none_before (suc n) [] p q le e = none_before n [] p q le e
none_before (suc n) (x ∷ a) p q le e = by (nat_cmp x 0) refl e (none_before n a p q le)
  where
    by : (o : Ordering) → nat_cmp x 0 ≡ o → ordering_then o (bytes_cmp (padded n a ++ p ∷ []) (padded n [] ++ q ∷ [])) ≡ Less → (bytes_cmp (padded n a ++ p ∷ []) (padded n [] ++ q ∷ []) ≡ Less → ⊥) → ⊥
    by Less s e r = at_zero x s
    by Equal s e r = r e
    by Greater s e r = cc

-- heads of n bytes and a count that begins at i
pub counted_less : (n i : ℕ) (a b : List ℕ) → bytes_cmp (padded n a ++ (i + min (length a) (suc n)) ∷ []) (padded n b ++ (i + min (length b) (suc n)) ∷ []) ≡ Less → bytes_cmp a b ≡ Less
counted_less zero i [] [] e = absurd (let same : i + min 0 1 ≡ i = omega arith in none_before 0 [] (i + min 0 1) (i + min 0 1) (omega arith) e)
counted_less zero i [] (y ∷ b) e = refl
counted_less zero i (x ∷ a) b e = absurd (none_before 0 [] (i + min (suc (length a)) 1) (i + min (length b) 1) (omega arith) e)
counted_less (suc n) i [] [] e = counted_less n i [] [] (subst (λ (m : ℕ). bytes_cmp (padded n [] ++ m ∷ []) (padded n [] ++ m ∷ []) ≡ Less) (omega arith) e)
counted_less (suc n) i [] (y ∷ b) e = refl
counted_less (suc n) i (x ∷ a) [] e = absurd (none_before (suc n) (x ∷ a) (i + min (suc (length a)) (suc (suc n))) (i + min 0 (suc (suc n))) (omega arith) e)
counted_less (suc n) i (x ∷ a) (y ∷ b) e = by (nat_cmp x y) e (λ r. counted_less n (suc i) a b (subst (λ (p : ℕ). bytes_cmp (padded n a ++ p ∷ []) (padded n b ++ (suc i + min (length b) (suc n)) ∷ []) ≡ Less) (next (length a)) (subst (λ (q : ℕ). bytes_cmp (padded n a ++ (i + min (suc (length a)) (suc (suc n))) ∷ []) (padded n b ++ q ∷ []) ≡ Less) (next (length b)) r)))
  where
    next : (m : ℕ) → i + min (suc m) (suc (suc n)) ≡ suc i + min m (suc n)
    next m = omega arith

    rest : Ordering
    rest = bytes_cmp (padded n a ++ (i + min (suc (length a)) (suc (suc n))) ∷ []) (padded n b ++ (i + min (suc (length b)) (suc (suc n))) ∷ [])

    by : (o : Ordering) → ordering_then o rest ≡ Less → (rest ≡ Less → bytes_cmp a b ≡ Less) → ordering_then o (bytes_cmp a b) ≡ Less
    by Less e r = refl
    by Equal e r = r e
    by Greater e r = absurd cc

-- ---- heads that tell the whole string

-- the same bytes up to n and the same number of them, which is no more than n
pub same_whole : (n : ℕ) (a b : List ℕ) → padded n a ≡ padded n b → length a ≡ length b → length a ≤ n → a ≡ b
same_whole n [] [] e l le = refl
same_whole n [] (y ∷ b) e l le = absurd (omega arith)
same_whole n (x ∷ a) [] e l le = absurd (omega arith)
same_whole zero (x ∷ a) (y ∷ b) e l le = absurd (omega arith)
same_whole (suc n) (x ∷ a) (y ∷ b) e l le =
    let first : x ≡ y = ap (λ (bytes : List ℕ). get_or bytes 0 0) e in
    let others = same_whole n a b (ap (drop 1) e) (omega arith) (omega arith) in
    (λ i. first i ∷ others i)

-- ---- the order of spelled keys

-- a byte of a name isn't zero
above_zero : (x : ℕ) → is_name_byte x ≡ true → nat_cmp 0 x ≡ Less
above_zero zero h = absurd cc
above_zero (suc x) h = sym (nat_cmp_is 0 (suc x) Less (omega arith))

spelled_order : (a b : List ℕ) (x y : List ℕ) → list_all is_name_byte a ≡ true → list_all is_name_byte b ≡ true
    → bytes_cmp (a ++ 0 ∷ x) (b ++ 0 ∷ y) ≡ ordering_then (bytes_cmp a b) (bytes_cmp x y)
spelled_order [] [] x y h g = refl
spelled_order [] (d ∷ b) x y h g =
    let here = both_true (is_name_byte d) (list_all is_name_byte b) g in
    ap (λ (o : Ordering). ordering_then o (bytes_cmp x (b ++ 0 ∷ y))) (above_zero d here.0)
spelled_order (c ∷ a) [] x y h g =
    let here = both_true (is_name_byte c) (list_all is_name_byte a) h in
    ap (λ (o : Ordering). ordering_then o (bytes_cmp (a ++ 0 ∷ x) y)) (nat_cmp_total.antisymm c 0 ∙ ap ordering_reverse (above_zero c here.0))
spelled_order (c ∷ a) (d ∷ b) x y h g = by (nat_cmp c d) (spelled_order a b x y (both_true (is_name_byte c) (list_all is_name_byte a) h).1 (both_true (is_name_byte d) (list_all is_name_byte b) g).1)
  where
    by : (o : Ordering) → bytes_cmp (a ++ 0 ∷ x) (b ++ 0 ∷ y) ≡ ordering_then (bytes_cmp a b) (bytes_cmp x y)
        → ordering_then o (bytes_cmp (a ++ 0 ∷ x) (b ++ 0 ∷ y)) ≡ ordering_then (ordering_then o (bytes_cmp a b)) (bytes_cmp x y)
    by Less r = refl
    by Equal r = r
    by Greater r = refl

-- ---- the law

name_bytes : (n : List ℕ) → is_name n ≡ true → list_all is_name_byte n ≡ true
name_bytes n h = (both_true (nat_le 1 (length n) && nat_le (length n) 64) (list_all is_name_byte n) h).1

spelled_cmp : (a b : StateKey) → IsTrue (is_name a.0) → IsTrue (is_name b.0) → bytes_cmp (spelled a) (spelled b) ≡ key_cmp a b
spelled_cmp a b h g = spelled_order a.0 b.0 a.1 b.1 (name_bytes a.0 h) (name_bytes b.0 g)

heads_less : (a b : StateKey) → IsTrue (is_name a.0) → IsTrue (is_name b.0) → bytes_cmp (head_of a) (head_of b) ≡ Less → key_cmp a b ≡ Less
unfolding head_of
heads_less a b h g e =
    let from_zero : (m : ℕ) → 0 + m ≡ m = λ m. omega arith in
    sym (spelled_cmp a b h g)
    ∙ counted_less 23 0 (spelled a) (spelled b)
    ((λ i. bytes_cmp (padded 23 (spelled a) ++ from_zero (min (length (spelled a)) 24) i ∷ []) (padded 23 (spelled b) ++ from_zero (min (length (spelled b)) 24) i ∷ [])) ∙ e)

heads_greater : (a b : StateKey) → IsTrue (is_name a.0) → IsTrue (is_name b.0) → bytes_cmp (head_of a) (head_of b) ≡ Greater → key_cmp a b ≡ Greater
heads_greater a b h g e =
    key_cmp_total.antisymm a b ∙ ap ordering_reverse (heads_less b a g h (nat_list_cmp_total.antisymm (head_of b) (head_of a) ∙ ap ordering_reverse e))

-- the count of a head
its_count : (n m : ℕ) (a : List ℕ) → get_or (padded n a ++ m ∷ []) n 0 ≡ m
its_count zero m a = refl
its_count (suc n) m [] = its_count n m []
its_count (suc n) m (x ∷ a) = its_count n m a

front_of : (n m k : ℕ) (a b : List ℕ) → padded n a ++ m ∷ [] ≡ padded n b ++ k ∷ [] → padded n a ≡ padded n b
front_of n m k a b e =
    sym (front a m) ∙ ap (take n) e ∙ front b k
  where
    front : (l : List ℕ) (c : ℕ) → take n (padded n l ++ c ∷ []) ≡ padded n l
    front l c = go n l
      where
        go : (i : ℕ) (x : List ℕ) → take i (padded i x ++ c ∷ []) ≡ padded i x
        go zero x = refl
        go (suc i) [] = ap (λ (t : List ℕ). 0 ∷ t) (go i [])
        go (suc i) (y ∷ x) = ap (λ (t : List ℕ). y ∷ t) (go i x)

no_more : (a b : ℕ) → nat_le a b ≡ true → a ≤ b
no_more a b test = grind (arith, nat_tests)

equal_to_itself : (l : List ℕ) → bytes_cmp l l ≡ Equal
equal_to_itself [] = refl
equal_to_itself (x ∷ l) = ap (λ (o : Ordering). ordering_then o (bytes_cmp l l)) (sym (nat_cmp_is x x Equal refl)) ∙ equal_to_itself l

heads_equal : (a b : StateKey) → IsTrue (is_name a.0) → IsTrue (is_name b.0) → head_of a ≡ head_of b → is_whole (head_of a) ≡ true → key_cmp a b ≡ Equal
unfolding head_of
heads_equal a b h g e whole =
    let count : min (length (spelled a)) 24 ≡ min (length (spelled b)) 24 =
    sym (its_count 23 (min (length (spelled a)) 24) (spelled a)) ∙ ap (λ (l : List ℕ). get_or l 23 0) e ∙ its_count 23 (min (length (spelled b)) 24) (spelled b) in
    let few : nat_le (min (length (spelled a)) 24) 23 ≡ true = ap (λ (m : ℕ). nat_le m 23) (sym (its_count 23 (min (length (spelled a)) 24) (spelled a))) ∙ whole in
    let le : min (length (spelled a)) 24 ≤ 23 = no_more (min (length (spelled a)) 24) 23 few in
    let same = same_whole 23 (spelled a) (spelled b) (front_of 23 (min (length (spelled a)) 24) (min (length (spelled b)) 24) (spelled a) (spelled b) e) (omega (arith, count, le)) (omega (arith, le)) in
    sym (spelled_cmp a b h g) ∙ ap (bytes_cmp (spelled a)) (sym same) ∙ equal_to_itself (spelled a)

-- heads that differ tell the order, and so do equal ones that are whole
pub heads_tell : (a b : StateKey) → IsTrue (is_name a.0) → IsTrue (is_name b.0) → (bytes_cmp (head_of a) (head_of b) ≡ Equal → is_whole (head_of a) ≡ true) → bytes_cmp (head_of a) (head_of b) ≡ key_cmp a b
heads_tell a b h g whole = by (bytes_cmp (head_of a) (head_of b)) refl
  where
    by : (o : Ordering) → bytes_cmp (head_of a) (head_of b) ≡ o → o ≡ key_cmp a b
    by Less e = sym (heads_less a b h g e)
    by Equal e = sym (heads_equal a b h g (slice_cmp-IsAntisymmetric nat_cmp-IsAntisymmetric (head_of a) (head_of b) e) (whole e))
    by Greater e = sym (heads_greater a b h g e)
