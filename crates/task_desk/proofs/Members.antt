-- The numbers in a set of words.
use Rattle.std.proofs.Common.{◌≡◌, ◌≢◌, ◌⊎◌, inl, inr, ℕ, ◌+◌, ◌*◌, ◌/◌, ◌%◌, ◌<◌, ◌≤◌, eqb, leb, Bool, true, false, cond, Option, Some, None, List, length, set, get_or, refl, sym, ap, ◌∙◌, arith}
use Rattle.std.specs.Prelude.{◌==◌, replicate, slice_index, slice_index_or, MatchOption}
use Rattle.std.specs.Int.{bit_at}
use Rattle.std.proofs.Math.ListN.{get_or-eq_default}
use Rattle.std.proofs.lemmas.Bool.Decides.{eqb_tells, leb_tells}
use Rattle.std.proofs.lemmas.Nat.Bits.{bit_at-zero}
use Rattle.std.proofs.lemmas.List.{get_or-set_same, get_or-set_other, get_or-replicate, length-replicate, length-set, same_lists}
use Rattle.std.proofs.lemmas.List.FromFn.{get_or-map-range_with_len, length-map-range_with_len}
use Rattle.task_desk.specs.Bits.{is_set, members, HasWords, IsLeast, IsEmpty}
use Rattle.task_desk.specs.Groups.{NoneIn, IsFirstIn}

pub members-length : (words : List ℕ) (count : ℕ) → length (members words count) ≡ count
members-length words count = length-map-range_with_len (is_set words) 0 count

pub member-at : (words : List ℕ) (count k : ℕ) (d : Bool) → k < count → slice_index_or (members words count) k d ≡ is_set words k
member-at words count k d lt = get_or-map-range_with_len (is_set words) 0 count k k d lt (omega arith)

-- below the count and above it
pub members-at : (words : List ℕ) (count k : ℕ) → HasWords words count → slice_index_or (members words count) k false ≡ is_set words k
members-at words count k has = by (leb_tells count k)
  where
    by : ((leb count k ≡ true) × (count ≤ k)) ⊎ ((leb count k ≡ false) × (k < count)) → slice_index_or (members words count) k false ≡ is_set words k
    by (inl d) = get_or-eq_default (members words count) false (omega (arith, members-length words count)) ∙ sym (has.none_above k d.1)
    by (inr d) = member-at words count k false d.1

-- a word of no bits
zero_word : (words : List ℕ) (k : ℕ) → slice_index words (k / 64) ≡ 0 → is_set words k ≡ false
zero_word words k e = ap (λ (x : ℕ). bit_at x (k % 64) == 1) e ∙ ap (λ (x : ℕ). x == 1) (bit_at-zero (k % 64))

-- ---- no number

zeros-set : (words : List ℕ) (n k : ℕ) → words ≡ replicate n 0 → is_set words k ≡ false
zeros-set words n k is = zero_word words k (ap (λ (ws : List ℕ). slice_index ws (k / 64)) is ∙ by (leb_tells n (k / 64)))
  where
    by : ((leb n (k / 64) ≡ true) × (n ≤ k / 64)) ⊎ ((leb n (k / 64) ≡ false) × (k / 64 < n)) → slice_index (replicate n 0) (k / 64) ≡ 0
    by (inl d) = get_or-eq_default (replicate n 0) 0 (let le = d.1 in omega (arith, le, length-replicate {A = ℕ} n 0))
    by (inr d) = get_or-replicate n (k / 64) 0 0 d.1

pub zeros-members : (words : List ℕ) (n count : ℕ) → words ≡ replicate n 0 → members words count ≡ replicate count false
zeros-members words n count is =
    same_lists (members words count) (replicate count false) (members-length words count ∙ sym (length-replicate {A = Bool} count false))
    (λ k d below. let lt : k < count = omega (arith, below, members-length words count) in
    member-at words count k d lt ∙ zeros-set words n k is ∙ sym (get_or-replicate count k false d lt))

pub zeros-words : (words : List ℕ) (n count : ℕ) → words ≡ replicate n 0 → n ≤ 128 → count ≤ 64 * n → HasWords words count
zeros-words words n count is few enough = record {
  few = omega (arith, few, long);
  enough = omega (arith, enough, long);
  none_above = λ k le. zeros-set words n k is;
}
  where
    long : length words ≡ n
    long = ap (λ (ws : List ℕ). length ws) is ∙ length-replicate {A = ℕ} n 0

-- ---- a number is put in or taken out

-- v is the word with the bit of k set to m
abbrev pub IsWritten : ℕ → ℕ → ℕ → Bool → Type 0
IsWritten word k v m = (i : ℕ) → i < 64 → (bit_at v i == 1) ≡ cond (i == k % 64) m (bit_at word i == 1)

pub is_set-write : (words : List ℕ) (k v : ℕ) (m : Bool) → k / 64 < length words → IsWritten (slice_index words (k / 64)) k v m → (j : ℕ) → is_set (set words (k / 64) v) j ≡ cond (j == k) m (is_set words j)
is_set-write words k v m lt written j = by (eqb_tells (j / 64) (k / 64)) (eqb_tells j k)
  where
    same_word : j / 64 ≡ k / 64 → is_set (set words (k / 64) v) j ≡ (bit_at v (j % 64) == 1)
    same_word e = ap (λ (x : ℕ). bit_at x (j % 64) == 1) (ap (slice_index (set words (k / 64) v)) e ∙ get_or-set_same words (k / 64) v 0 lt)

    in_word : (b : Bool) → eqb (j % 64) (k % 64) ≡ b → j / 64 ≡ k / 64 → is_set (set words (k / 64) v) j ≡ cond b m (is_set words j)
    in_word b t e =
        same_word e ∙ written (j % 64) (omega arith) ∙ ap (λ c. cond c m (bit_at (slice_index words (k / 64)) (j % 64) == 1)) t
        ∙ ap (λ (n : ℕ). cond b m (bit_at (slice_index words n) (j % 64) == 1)) (sym e)

    rest_differs : j / 64 ≡ k / 64 → j ≢ k → ((eqb (j % 64) (k % 64) ≡ true) × (j % 64 ≡ k % 64)) ⊎ ((eqb (j % 64) (k % 64) ≡ false) × (j % 64 ≢ k % 64)) → eqb (j % 64) (k % 64) ≡ false
    rest_differs e apart (inl d) = absurd (apart (let rest = d.1 in omega (arith, rest, e)))
    rest_differs e apart (inr d) = d.0

    by : ((eqb (j / 64) (k / 64) ≡ true) × (j / 64 ≡ k / 64)) ⊎ ((eqb (j / 64) (k / 64) ≡ false) × (j / 64 ≢ k / 64)) → ((eqb j k ≡ true) × (j ≡ k)) ⊎ ((eqb j k ≡ false) × (j ≢ k)) → is_set (set words (k / 64) v) j ≡ cond (j == k) m (is_set words j)
    by (inl d) (inl e) = in_word true (ap (λ (n : ℕ). eqb (n % 64) (k % 64)) e.1 ∙ same_test (k % 64)) d.1 ∙ ap (λ c. cond c m (is_set words j)) (sym e.0)
      where
        same_test : (n : ℕ) → eqb n n ≡ true
        same_test n = elim (eqb_tells n n) as (λ _. eqb n n ≡ true) [ inl p ↦ p.0 | inr p ↦ absurd (p.1 refl) ]
    by (inl d) (inr e) = in_word false (rest_differs d.1 e.1 (eqb_tells (j % 64) (k % 64))) d.1 ∙ ap (λ c. cond c m (is_set words j)) (sym e.0)
    by (inr d) (inl e) = absurd (d.1 (ap (λ (n : ℕ). n / 64) e.1))
    by (inr d) (inr e) = ap (λ (x : ℕ). bit_at x (j % 64) == 1) (get_or-set_other words (k / 64) (j / 64) v 0 d.1) ∙ ap (λ c. cond c m (is_set words j)) (sym e.0)

pub write-members : (words : List ℕ) (count k v : ℕ) (m : Bool) → HasWords words count → k < count → IsWritten (slice_index words (k / 64)) k v m → members (set words (k / 64) v) count ≡ set (members words count) k m
write-members words count k v m has lt written =
    same_lists (members (set words (k / 64) v) count) (set (members words count) k m)
    (members-length (set words (k / 64) v) count ∙ sym (length-set (members words count) k m ∙ members-length words count))
    (λ j d below. at j d (omega (arith, members-length (set words (k / 64) v) count)) (eqb_tells j k))
  where
    inside : k / 64 < length words
    inside = let enough = has.enough in omega arith

    at : (j : ℕ) (d : Bool) → j < count → ((eqb j k ≡ true) × (j ≡ k)) ⊎ ((eqb j k ≡ false) × (j ≢ k)) → get_or (members (set words (k / 64) v) count) j d ≡ get_or (set (members words count) k m) j d
    at j d below (inl e) =
        member-at (set words (k / 64) v) count j d below ∙ is_set-write words k v m inside written j ∙ ap (λ c. cond c m (is_set words j)) e.0
        ∙ sym (ap (λ (n : ℕ). get_or (set (members words count) k m) n d) e.1 ∙ get_or-set_same (members words count) k m d (omega (arith, members-length words count)))
    at j d below (inr e) =
        member-at (set words (k / 64) v) count j d below ∙ is_set-write words k v m inside written j ∙ ap (λ c. cond c m (is_set words j)) e.0
        ∙ sym (get_or-set_other (members words count) k j m d e.1 ∙ member-at words count j d below)

pub write-words : (words : List ℕ) (count k v : ℕ) (m : Bool) → HasWords words count → k < count → IsWritten (slice_index words (k / 64)) k v m → HasWords (set words (k / 64) v) count
write-words words count k v m has lt written = record {
  few = let few = has.few in omega (arith, length-set words (k / 64) v);
  enough = let enough = has.enough in omega (arith, length-set words (k / 64) v);
  none_above = λ j le. above j le (eqb_tells j k);
}
  where
    above : (j : ℕ) → count ≤ j → ((eqb j k ≡ true) × (j ≡ k)) ⊎ ((eqb j k ≡ false) × (j ≢ k)) → is_set (set words (k / 64) v) j ≡ false
    above j le (inl e) = absurd (let same = e.1 in omega (arith, same))
    above j le (inr e) = is_set-write words k v m (let enough = has.enough in omega arith) written j ∙ ap (λ c. cond c m (is_set words j)) e.0 ∙ has.none_above j le

-- ---- the least

pub least-member : (words : List ℕ) (count k : ℕ) → HasWords words count → (is_set words k ≡ true) × ((j : ℕ) → j < k → is_set words j ≡ false) → IsLeast (members words count) k
least-member words count k has first = record {
  member = members-at words count k has ∙ first.0;
  least = λ j lt. members-at words count j has ∙ first.1 j lt;
}

pub no-member : (words : List ℕ) (count : ℕ) → HasWords words count → ((k : ℕ) → is_set words k ≡ false) → IsEmpty (members words count)
no-member words count has none = λ k. members-at words count k has ∙ none k

-- no bit below n words, and none in the rest
pub none_in_zero : (words : List ℕ) (i : ℕ) → slice_index words i ≡ 0 → ((k : ℕ) → k < 64 * i → is_set words k ≡ false) → (k : ℕ) → k < 64 * (i + 1) → is_set words k ≡ false
none_in_zero words i e below k lt = by (leb_tells (64 * i) k)
  where
    by : ((leb (64 * i) k ≡ true) × (64 * i ≤ k)) ⊎ ((leb (64 * i) k ≡ false) × (k < 64 * i)) → is_set words k ≡ false
    by (inl d) = let here : k / 64 ≡ i = (let le = d.1 in omega (arith, le, lt)) in zero_word words k (ap (slice_index words) here ∙ e)
    by (inr d) = below k d.1

pub none_behind : (words : List ℕ) (n : ℕ) → length words ≤ n → ((k : ℕ) → k < 64 * n → is_set words k ≡ false) → (k : ℕ) → is_set words k ≡ false
none_behind words n all below k = by (leb_tells (64 * n) k)
  where
    by : ((leb (64 * n) k ≡ true) × (64 * n ≤ k)) ⊎ ((leb (64 * n) k ≡ false) × (k < 64 * n)) → is_set words k ≡ false
    by (inl d) = zero_word words k (get_or-eq_default words 0 (let le = d.1 in let far : n ≤ k / 64 = omega (arith, le) in omega (arith, far, all)))
    by (inr d) = below k d.1

pub first_set : (words : List ℕ) (i bit : ℕ) → bit < 64 → bit_at (slice_index words i) bit ≡ 1 → ((b : ℕ) → b < bit → bit_at (slice_index words i) b ≡ 0) → ((k : ℕ) → k < 64 * i → is_set words k ≡ false)
    → (is_set words (64 * i + bit) ≡ true) × ((j : ℕ) → j < 64 * i + bit → is_set words j ≡ false)
first_set words i bit small one zeros below = (
  ap (λ (n : ℕ). bit_at (slice_index words n) ((64 * i + bit) % 64) == 1) quotient ∙ ap (λ (n : ℕ). bit_at (slice_index words i) n == 1) rest ∙ ap (λ (x : ℕ). x == 1) one,
  λ j lt. by j lt (leb_tells (64 * i) j),
)
  where
    quotient : (64 * i + bit) / 64 ≡ i
    quotient = omega arith

    rest : (64 * i + bit) % 64 ≡ bit
    rest = omega arith

    by : (j : ℕ) → j < 64 * i + bit → ((leb (64 * i) j ≡ true) × (64 * i ≤ j)) ⊎ ((leb (64 * i) j ≡ false) × (j < 64 * i)) → is_set words j ≡ false
    by j lt (inl d) =
        let le = d.1 in
        let here : j / 64 ≡ i = omega (arith, le, lt) in
        let less : j % 64 < bit = omega (arith, le, lt, here) in
        ap (λ (n : ℕ). bit_at (slice_index words n) (j % 64) == 1) here ∙ ap (λ (x : ℕ). x == 1) (zeros (j % 64) less)
    by j lt (inr d) = below j d.1

-- ---- the least of one word

pub none_in_word : (words : List ℕ) (i : ℕ) → slice_index words i ≡ 0 → (k : ℕ) → k / 64 ≡ i → is_set words k ≡ false
none_in_word words i zero_there k place = zero_word words k (ap (slice_index words) place ∙ zero_there)

pub first_in_word : (words : List ℕ) (i bit : ℕ) → bit < 64 → bit_at (slice_index words i) bit ≡ 1 → ((b : ℕ) → b < bit → bit_at (slice_index words i) b ≡ 0)
    → ((64 * i + bit) / 64 ≡ i) × (is_set words (64 * i + bit) ≡ true) × ((j : ℕ) → j < 64 * i + bit → j / 64 ≡ i → is_set words j ≡ false)
first_in_word words i bit small one zeros = (
  quotient,
  ap (λ (n : ℕ). bit_at (slice_index words n) ((64 * i + bit) % 64) == 1) quotient ∙ ap (λ (n : ℕ). bit_at (slice_index words i) n == 1) rest ∙ ap (λ (x : ℕ). x == 1) one,
  λ j lt here. ap (λ (n : ℕ). bit_at (slice_index words n) (j % 64) == 1) here ∙ ap (λ (x : ℕ). x == 1) (zeros (j % 64) (omega (arith, lt, here))),
)
  where
    quotient : (64 * i + bit) / 64 ≡ i
    quotient = omega arith

    rest : (64 * i + bit) % 64 ≡ bit
    rest = omega arith

-- the same of the members
pub word-members : (words : List ℕ) (count i : ℕ) (o : Option ℕ) → HasWords words count
    → MatchOption o ((k : ℕ) → k / 64 ≡ i → is_set words k ≡ false) (λ k. (k / 64 ≡ i) × (is_set words k ≡ true) × ((j : ℕ) → j < k → j / 64 ≡ i → is_set words j ≡ false))
    → MatchOption o (NoneIn (members words count) i) (λ k. IsFirstIn (members words count) i k)
word-members words count i None has none = λ k place. members-at words count k has ∙ none k place
word-members words count i (Some k) has first = record {
  place = first.0;
  member = members-at words count k has ∙ first.1;
  least = λ j lt place. members-at words count j has ∙ first.2 j lt place;
}
