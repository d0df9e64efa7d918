-- What readers accept of any list of numbers: a value that fits its limits, with a size that is no more than what was
-- read.
use Rattle.std.proofs.Common.{◌≡◌, ℕ, zero, suc, ◌+◌, ◌≤◌, Bool, true, false, cond, ltb, List, [], ◌∷◌, length, take, drop, Option, Some, None, refl, sym, ap, subst, ◌∙◌, arith, ltb-false, length-append, length-drop, take-append-drop}
use Rattle.std.specs.Prelude.{IfSome, option_map}
use Rattle.std.specs.List.{AllByRecursion}
use Rattle.byteorder.specs.Endian.{big_number}
use Rattle.transaction.specs.Combined.{◌>>=◌, Read, Reader, bytes_at, number_at, counted_at, tested_at, pair_at, mapped_at, byte_at, optional_at, fields_at, listed_at}
use Rattle.transaction.proofs.FieldLaws.{bind_some, some_is, if_some}

-- of at most this many
pub record Takes {A : Type 0} (most : ℕ) (read : Reader A) (size : A → ℕ) (Fits : A → Type 0) : Type 0 where
  pub taken : (bytes : List ℕ) (x : A × List ℕ) → length bytes ≤ most → read bytes ≡ Some x → (size x.0 + length x.1 ≤ length bytes) × Fits x.0

-- ---- steps that may have no value

pub mapped_some : {A B : Type 0} (f : A → B) (o : Option A) (y : B) → option_map f o ≡ Some y → (x : A) × (o ≡ Some x) × (f x ≡ y)
mapped_some f (Some x) y e = (x, refl, some_is (f x) y e)
mapped_some f None y e = absurd cc

if_none : {A : Type 0} (b : Bool) (o : Option A) (y : A) → cond b None o ≡ Some y → (b ≡ false) × (o ≡ Some y)
if_none true o y e = absurd cc
if_none false o y e = (refl, e)

-- the two fields of a pair, and what is between
pub pair_parts : {A B : Type 0} (ra : Reader A) (rb : Reader B) (bytes : List ℕ) (x : (A × B) × List ℕ) → pair_at ra rb bytes ≡ Some x
    → (mid : List ℕ) × (ra bytes ≡ Some (x.0.0, mid)) × (rb mid ≡ Some (x.0.1, x.1))
pair_parts {A} {B} ra rb bytes x e =
    let a = bind_some (ra bytes) (λ a. rb a.1 >>= λ b. Some ((a.0, b.0), b.1)) x e in
    let both : B × List ℕ → Read (A × B) = λ b. Some ((a.0.0, b.0), b.1) in
    let b = bind_some (rb a.0.1) both x a.2 in
    subst (λ (y : (A × B) × List ℕ). (mid : List ℕ) × (ra bytes ≡ Some (y.0.0, mid)) × (rb mid ≡ Some (y.0.1, y.1))) (some_is ((a.0.0, b.0.0), b.0.1) x b.2) (a.0.1, a.1, b.1)

-- a field that passes a test
pub tested_parts : {A : Type 0} (test : A → Bool) (read : Reader A) (bytes : List ℕ) (x : A × List ℕ) → tested_at test read bytes ≡ Some x → (read bytes ≡ Some x) × (test x.0 ≡ true)
tested_parts {A} test read bytes x e =
    let a = bind_some (read bytes) (λ y. cond (test y.0) (Some y) None) x e in
    let g = if_some (test a.0.0) (Some a.0) x a.2 in
    subst (λ (y : A × List ℕ). (read bytes ≡ Some y) × (test y.0 ≡ true)) (some_is a.0 x g.1) (a.1, g.0)

-- ---- bytes and numbers

pub bytes_takes : {most : ℕ} (n : ℕ) → Takes most (bytes_at n) (λ x. length x) (λ x. length x ≤ most)
bytes_takes {most} n = record { taken = taken }
  where
    taken : (bytes : List ℕ) (x : List ℕ × List ℕ) → length bytes ≤ most → bytes_at n bytes ≡ Some x → (length x.0 + length x.1 ≤ length bytes) × (length x.0 ≤ most)
    taken bytes x few e =
        let g = if_none (ltb (length bytes) n) (Some (take n bytes, drop n bytes)) x e in
        let sum : length (take n bytes) + length (drop n bytes) ≡ length bytes = sym (length-append (take n bytes) (drop n bytes)) ∙ ap length (take-append-drop n bytes) in
        let whole : (length (take n bytes) + length (drop n bytes) ≤ length bytes) × (length (take n bytes) ≤ most) = (omega (arith, sum), omega (arith, sum, few)) in
        subst (λ (p : List ℕ × List ℕ). (length p.0 + length p.1 ≤ length bytes) × (length p.0 ≤ most)) (some_is (take n bytes, drop n bytes) x g.1) whole

pub number_takes : {most : ℕ} (k : ℕ) → Takes most (number_at k) (λ n. k) (λ n. Unit {0})
number_takes {most} k = record { taken = taken }
  where
    taken : (bytes : List ℕ) (x : ℕ × List ℕ) → length bytes ≤ most → number_at k bytes ≡ Some x → (k + length x.1 ≤ length bytes) × Unit {0}
    taken bytes x few e =
        let g = if_none (ltb (length bytes) k) (Some (big_number k bytes, drop k bytes)) x e in
        let long : k ≤ length bytes = ltb-false _ _ g.0 in
        let whole : k + length (drop k bytes) ≤ length bytes = omega (arith, long, length-drop k bytes) in
        (subst (λ (p : ℕ × List ℕ). k + length p.1 ≤ length bytes) (some_is (big_number k bytes, drop k bytes) x g.1) whole, tt)

pub counted_takes : {most : ℕ} (k : ℕ) → Takes most (counted_at k) (λ x. k + length x) (λ x. length x ≤ most)
counted_takes {most} k = record { taken = taken }
  where
    number : Takes most (number_at k) (λ n. k) (λ n. Unit {0})
    number = number_takes k

    taken : (bytes : List ℕ) (x : List ℕ × List ℕ) → length bytes ≤ most → counted_at k bytes ≡ Some x → (k + length x.0 + length x.1 ≤ length bytes) × (length x.0 ≤ most)
    taken bytes x few e =
        let a = bind_some (number_at k bytes) (λ n. bytes_at n.0 n.1) x e in
        let n = number.taken bytes a.0 few a.1 in
        let inside : Takes most (bytes_at a.0.0) (λ y. length y) (λ y. length y ≤ most) = bytes_takes a.0.0 in
        let b = inside.taken a.0.1 x (omega (arith, n.0, few)) a.2 in
        (omega (arith, n.0, b.0), b.1)

-- a byte that encodes a value
byte_taken : {A : Type 0} (value : ℕ → Option A) (bytes : List ℕ) (x : A × List ℕ) → byte_at value bytes ≡ Some x → length x.1 ≤ length bytes
byte_taken value [] x e = absurd cc
byte_taken {A} value (b ∷ bytes) x e =
    let a = mapped_some (λ y. (y, bytes)) (value b) x e in
    subst (λ (y : A × List ℕ). length y.1 ≤ length (b ∷ bytes)) a.2 (omega arith)

pub byte_takes : {A : Type 0} {most : ℕ} (value : ℕ → Option A) → Takes most (byte_at value) (λ x. 0) (λ x. Unit {0})
byte_takes value = record { taken = λ bytes x few e. (omega (arith, byte_taken value bytes x e), tt) }

-- ---- other sizes and limits of the same field

pub said_takes : {A : Type 0} {most : ℕ} {read : Reader A} {size : A → ℕ} {F : A → Type 0} (less : A → ℕ) (G : A → Type 0) → Takes most read size F
    → ((x : A) → less x ≤ size x) → ((x : A) → F x → G x) → Takes most read less G
said_takes less G field below gives = record {
  taken = λ bytes x few e. (omega (arith, (field.taken bytes x few e).0, below x.0), gives x.0 (field.taken bytes x few e).1);
}

pub tested_takes : {A : Type 0} {most : ℕ} {read : Reader A} {size : A → ℕ} {F : A → Type 0} (test : A → Bool) → Takes most read size F
    → Takes most (tested_at test read) size (λ x. F x × (test x ≡ true))
tested_takes {read = read} test field = record {
  taken = λ bytes x few e.
      let parts = tested_parts test read bytes x e in
      let h = field.taken bytes x few parts.0 in
      (h.0, (h.1, parts.1));
}

pub mapped_takes : {A B : Type 0} {most : ℕ} {read : Reader A} {size : A → ℕ} {F : A → Type 0} (f : A → B) (less : B → ℕ) (G : B → Type 0) → Takes most read size F
    → ((x : A) → less (f x) ≤ size x) → ((x : A) → F x → G (f x)) → Takes most (mapped_at f read) less G
mapped_takes {A} {B} {most} {read} {size} {F} f less G field below gives = record { taken = taken }
  where
    taken : (bytes : List ℕ) (y : B × List ℕ) → length bytes ≤ most → mapped_at f read bytes ≡ Some y → (less y.0 + length y.1 ≤ length bytes) × G y.0
    taken bytes y few e =
        let a = mapped_some (λ x. (f x.0, x.1)) (read bytes) y e in
        let h = field.taken bytes a.0 few a.1 in
        let whole : (less (f a.0.0) + length a.0.1 ≤ length bytes) × G (f a.0.0) = (omega (arith, h.0, below a.0.0), gives a.0.0 h.1) in
        subst (λ (x : B × List ℕ). (less x.0 + length x.1 ≤ length bytes) × G x.0) a.2 whole

-- ---- fields of one kind

optional_taken : {A : Type 0} {most : ℕ} {read : Reader A} {size : A → ℕ} {F : A → Type 0} → Takes most read size F
    → (bytes : List ℕ) (x : Option A × List ℕ) → length bytes ≤ most → optional_at read bytes ≡ Some x → (length x.1 ≤ length bytes) × IfSome x.0 F
optional_taken field [] x few e = absurd cc
optional_taken {A} {F = F} field (zero ∷ bytes) x few e =
    subst (λ (y : Option A × List ℕ). (length y.1 ≤ length (0 ∷ bytes)) × IfSome y.0 F) (some_is (None, bytes) x e) (omega arith, tt)
optional_taken {A} {read = read} {F = F} field (suc zero ∷ bytes) x few e =
    let a = mapped_some (λ y. (Some y.0, y.1)) (read bytes) x e in
    let h = field.taken bytes a.0 (omega (arith, few)) a.1 in
    subst (λ (y : Option A × List ℕ). (length y.1 ≤ length (1 ∷ bytes)) × IfSome y.0 F) a.2 (omega (arith, h.0), h.1)
optional_taken field (suc (suc b) ∷ bytes) x few e = absurd cc

pub optional_takes : {A : Type 0} {most : ℕ} {read : Reader A} {size : A → ℕ} {F : A → Type 0} → Takes most read size F
    → Takes most (optional_at read) (λ o. 0) (λ o. IfSome o F)
optional_takes field = record { taken = λ bytes x few e. (omega (arith, (optional_taken field bytes x few e).0), (optional_taken field bytes x few e).1) }

-- the sizes of all
abbrev pub total : {A : Type 0} → (A → ℕ) → List A → ℕ
total size [] = 0
total size (x ∷ xs) = size x + total size xs

fields_taken : {A : Type 0} {most : ℕ} {read : Reader A} {size : A → ℕ} {F : A → Type 0} → Takes most read size F
    → (n : ℕ) (bytes : List ℕ) (x : List A × List ℕ) → length bytes ≤ most → fields_at read n bytes ≡ Some x
    → (total size x.0 + length x.1 ≤ length bytes) × AllByRecursion F x.0
unfolding fields_at
fields_taken {A} {size = size} {F = F} field zero bytes x few e =
    subst (λ (p : List A × List ℕ). (total size p.0 + length p.1 ≤ length bytes) × AllByRecursion F p.0) (some_is ([], bytes) x e) (omega arith, tt)
fields_taken {A} {most} {read} {size} {F} field (suc n) bytes x few e =
    let a = bind_some (read bytes) (λ first. fields_at read n first.1 >>= λ others. Some (first.0 ∷ others.0, others.1)) x e in
    let push : List A × List ℕ → Read (List A) = λ others. Some (a.0.0 ∷ others.0, others.1) in
    let b = bind_some (fields_at read n a.0.1) push x a.2 in
    let first = field.taken bytes a.0 few a.1 in
    let others = fields_taken field n a.0.1 b.0 (omega (arith, first.0, few)) b.1 in
    let whole : (total size (a.0.0 ∷ b.0.0) + length b.0.1 ≤ length bytes) × AllByRecursion F (a.0.0 ∷ b.0.0) = (omega (arith, first.0, others.0), (first.1, others.1)) in
    subst (λ (p : List A × List ℕ). (total size p.0 + length p.1 ≤ length bytes) × AllByRecursion F p.0) (some_is (a.0.0 ∷ b.0.0, b.0.1) x b.2) whole

pub listed_takes : {A : Type 0} {most : ℕ} {read : Reader A} {size : A → ℕ} {F : A → Type 0} (k : ℕ) → Takes most read size F
    → Takes most (listed_at k read) (total size) (AllByRecursion F)
listed_takes {A} {most} {read} {size} {F} k field = record { taken = taken }
  where
    number : Takes most (number_at k) (λ n. k) (λ n. Unit {0})
    number = number_takes k

    taken : (bytes : List ℕ) (x : List A × List ℕ) → length bytes ≤ most → listed_at k read bytes ≡ Some x → (total size x.0 + length x.1 ≤ length bytes) × AllByRecursion F x.0
    taken bytes x few e =
        let a = bind_some (number_at k bytes) (λ n. fields_at read n.0 n.1) x e in
        let n = number.taken bytes a.0 few a.1 in
        let b = fields_taken field a.0.0 a.0.1 x (omega (arith, n.0, few)) a.2 in
        (omega (arith, n.0, b.0), b.1)

-- ---- one field, then another

pub pair_takes : {A B : Type 0} {most : ℕ} {ra : Reader A} {rb : Reader B} {sa : A → ℕ} {sb : B → ℕ} {Fa : A → Type 0} {Fb : B → Type 0} → Takes most ra sa Fa → Takes most rb sb Fb
    → Takes most (pair_at ra rb) (λ p. sa p.0 + sb p.1) (λ p. Fa p.0 × Fb p.1)
pair_takes {A} {B} {most} {ra} {rb} {sa} {sb} {Fa} {Fb} first second = record { taken = taken }
  where
    taken : (bytes : List ℕ) (x : (A × B) × List ℕ) → length bytes ≤ most → pair_at ra rb bytes ≡ Some x → (sa x.0.0 + sb x.0.1 + length x.1 ≤ length bytes) × (Fa x.0.0 × Fb x.0.1)
    taken bytes x few e =
        let parts = pair_parts ra rb bytes x e in
        let a : (sa x.0.0 + length parts.0 ≤ length bytes) × Fa x.0.0 = first.taken bytes (x.0.0, parts.0) few parts.1 in
        let b : (sb x.0.1 + length x.1 ≤ length parts.0) × Fb x.0.1 = second.taken parts.0 (x.0.1, x.1) (omega (arith, a.0, few)) parts.2 in
        (omega (arith, a.0, b.0), (a.1, b.1))
