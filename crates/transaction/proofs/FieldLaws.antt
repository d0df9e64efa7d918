-- What a reader reads is what was spelled, and what was spelled is read again: for each way to combine readers.
use Rattle.std.proofs.Common.{◌≡◌, ℕ, zero, suc, ◌^◌, ◌<◌, ◌≤◌, Bool, true, false, cond, leb, ltb, List, [], ◌∷◌, ◌++◌, length, take, drop, Option, Some, None, refl, sym, ap, subst, ◌∙◌, append_assoc, arith}
use Rattle.std.specs.Prelude.{IfSome, option_map}
use Rattle.std.specs.List.{flat_map, AllByRecursion}
use Rattle.std.proofs.lemmas.Bool.{ltb-false, le-ltb, leb-true, le-leb}
use Rattle.std.proofs.lemmas.List.{take_at, drop_at, take-append-drop, length-append, length-take}
use Rattle.std.proofs.lemmas.List.Concat.{flat_map-cons}
use Rattle.byteorder.specs.Endian.{big_bytes, big_number}
use Rattle.byteorder.specs.Numbers.{big_number-reads_back, length-bytes_high_first, big_from-lt, big_from-take}
use Rattle.transaction.specs.Combined.{◌>>=◌, Read, Reader, bytes_at, number_at, counted_at, tested_at, pair_at, mapped_at, byte_at, optional_at, fields_at, listed_at, few_at}
use Rattle.transaction.specs.Grammar.{counted, listed, optional}
use Rattle.values.proofs.Numbers.{IsBytes, IsBytes-behind, IsBytes-take, IsWide, wide1}

pub record IsField {A : Type 0} (read : Reader A) (spell : A → List ℕ) (Fits : A → Type 0) : Type 0 where
  pub taken : (bytes : List ℕ) (x : A × List ℕ) → IsBytes bytes → read bytes ≡ Some x → (bytes ≡ spell x.0 ++ x.1) × Fits x.0
  pub again : (x : A) (rest : List ℕ) → Fits x → read (spell x ++ rest) ≡ Some (x, rest)

-- ---- steps that may have no value

pub bind_some : {A B : Type 0} (o : Option A) (f : A → Option B) (y : B) → (o >>= f) ≡ Some y → (x : A) × (o ≡ Some x) × (f x ≡ Some y)
bind_some (Some x) f y e = (x, refl, e)
bind_some None f y e = absurd cc

abbrev pub some : {A : Type 0} → A → Option A
some x = Some x

pub some_is : {A : Type 0} (x y : A) → some x ≡ some y → x ≡ y
some_is x y e = cc

mapped_some : {A B : Type 0} (f : A → B) (o : Option A) (y : B) → option_map f o ≡ Some y → (x : A) × (o ≡ Some x) × (f x ≡ y)
mapped_some f (Some x) y e = (x, refl, some_is (f x) y e)
mapped_some f None y e = absurd cc

pub if_some : {A : Type 0} (b : Bool) (o : Option A) (y : A) → cond b o None ≡ Some y → (b ≡ true) × (o ≡ Some y)
if_some true o y e = (refl, e)
if_some false o y e = absurd cc

if_none : {A : Type 0} (b : Bool) (o : Option A) (y : A) → cond b None o ≡ Some y → (b ≡ false) × (o ≡ Some y)
if_none true o y e = absurd cc
if_none false o y e = (refl, e)

-- ---- bytes and numbers

pub bytes_field : (n : ℕ) → IsField (bytes_at n) (λ x. x) (λ x. length x ≡ n)
bytes_field n = record { taken = taken; again = again }
  where
    taken : (bytes : List ℕ) (x : List ℕ × List ℕ) → IsBytes bytes → bytes_at n bytes ≡ Some x → (bytes ≡ x.0 ++ x.1) × (length x.0 ≡ n)
    taken bytes x fits e =
        let g = if_none (ltb (length bytes) n) (Some (take n bytes, drop n bytes)) x e in
        let long : n ≤ length bytes = ltb-false _ _ g.0 in
        let whole : (bytes ≡ take n bytes ++ drop n bytes) × (length (take n bytes) ≡ n) = (sym (take-append-drop n bytes), omega (arith, length-take n bytes)) in
        subst (λ (p : List ℕ × List ℕ). (bytes ≡ p.0 ++ p.1) × (length p.0 ≡ n)) (some_is (take n bytes, drop n bytes) x g.1) whole

    again : (x rest : List ℕ) → length x ≡ n → bytes_at n (x ++ rest) ≡ Some (x, rest)
    again x rest len =
        let long : ltb (length (x ++ rest)) n ≡ false = le-ltb _ _ (omega (arith, length-append x rest)) in
        rw (long, take_at x rest n len, drop_at x rest n len) refl

pub number_field : (k : ℕ) → IsWide k → IsField (number_at k) (big_bytes k) (λ n. n < 256 ^ k)
number_field k wide = record { taken = taken; again = again }
  where
    taken : (bytes : List ℕ) (x : ℕ × List ℕ) → IsBytes bytes → number_at k bytes ≡ Some x → (bytes ≡ big_bytes k x.0 ++ x.1) × (x.0 < 256 ^ k)
    taken bytes x fits e =
        let g = if_none (ltb (length bytes) k) (Some (big_number k bytes, drop k bytes)) x e in
        let long : k ≤ length bytes = ltb-false _ _ g.0 in
        let front : big_number k (take k bytes) ≡ big_number k bytes = big_from-take 0 k k bytes (omega arith) in
        let same : big_bytes k (big_number k bytes) ≡ take k bytes = ap (big_bytes k) (sym front) ∙ wide.back (take k bytes) (omega (arith, length-take k bytes)) (IsBytes-take k bytes fits) in
        let whole : (bytes ≡ big_bytes k (big_number k bytes) ++ drop k bytes) × (big_number k bytes < 256 ^ k) = (sym (take-append-drop k bytes) ∙ ap (λ (t : List ℕ). t ++ drop k bytes) (sym same), big_from-lt 0 k bytes fits) in
        subst (λ (p : ℕ × List ℕ). (bytes ≡ big_bytes k p.0 ++ p.1) × (p.0 < 256 ^ k)) (some_is (big_number k bytes, drop k bytes) x g.1) whole

    again : (n : ℕ) (rest : List ℕ) → n < 256 ^ k → number_at k (big_bytes k n ++ rest) ≡ Some (n, rest)
    again n rest lt =
        let len : length (big_bytes k n) ≡ k = length-bytes_high_first k n in
        let long : ltb (length (big_bytes k n ++ rest)) k ≡ false = le-ltb _ _ (omega (arith, length-append (big_bytes k n) rest)) in
        rw (long, big_number-reads_back k n rest lt, drop_at (big_bytes k n) rest k len) refl

-- one part behind another
joined : (bytes a b x y rest : List ℕ) → bytes ≡ x ++ a → a ≡ y ++ rest → bytes ≡ (x ++ y) ++ rest
joined bytes a b x y rest e f = e ∙ ap (λ (t : List ℕ). x ++ t) f ∙ sym (append_assoc x y rest)

pub counted_field : (k : ℕ) → IsWide k → IsField (counted_at k) (counted k) (λ x. length x < 256 ^ k)
counted_field k wide = record { taken = taken; again = again }
  where
    number : IsField (number_at k) (big_bytes k) (λ n. n < 256 ^ k)
    number = number_field k wide

    taken : (bytes : List ℕ) (x : List ℕ × List ℕ) → IsBytes bytes → counted_at k bytes ≡ Some x → (bytes ≡ counted k x.0 ++ x.1) × (length x.0 < 256 ^ k)
    taken bytes x fits e =
        let a = bind_some (number_at k bytes) (λ n. bytes_at n.0 n.1) x e in
        let n = number.taken bytes a.0 fits a.1 in
        let b = (bytes_field a.0.0).taken a.0.1 x (IsBytes-behind (big_bytes k a.0.0) a.0.1 bytes fits n.0) a.2 in
        (joined bytes a.0.1 x.0 (big_bytes k (length x.0)) x.0 x.1 (n.0 ∙ ap (λ (m : ℕ). big_bytes k m ++ a.0.1) (sym b.1)) b.0, subst (λ (m : ℕ). m < 256 ^ k) (sym b.1) n.1)

    again : (x rest : List ℕ) → length x < 256 ^ k → counted_at k (counted k x ++ rest) ≡ Some (x, rest)
    again x rest lt =
        ap (counted_at k) (append_assoc (big_bytes k (length x)) x rest)
        ∙ ap (λ (r : Read ℕ). r >>= λ n. bytes_at n.0 n.1) (number.again (length x) (x ++ rest) lt)
        ∙ (bytes_field (length x)).again x rest refl

-- ---- fields of one kind

module _ {A : Type 0} (read : Reader A) (spell : A → List ℕ) (Fits : A → Type 0) (field : IsField read spell Fits) where
  pub tested_field : (test : A → Bool) → IsField (tested_at test read) spell (λ x. Fits x × (test x ≡ true))
  tested_field test = record { taken = taken; again = again }
    where
      taken : (bytes : List ℕ) (x : A × List ℕ) → IsBytes bytes → tested_at test read bytes ≡ Some x → (bytes ≡ spell x.0 ++ x.1) × (Fits x.0 × (test x.0 ≡ true))
      taken bytes x fits e =
          let a = bind_some (read bytes) (λ y. cond (test y.0) (Some y) None) x e in
          let g = if_some (test a.0.0) (Some a.0) x a.2 in
          let f = field.taken bytes a.0 fits a.1 in
          subst (λ (y : A × List ℕ). (bytes ≡ spell y.0 ++ y.1) × (Fits y.0 × (test y.0 ≡ true))) (some_is a.0 x g.1) (f.0, (f.1, g.0))

      again : (x : A) (rest : List ℕ) → Fits x × (test x ≡ true) → tested_at test read (spell x ++ rest) ≡ Some (x, rest)
      again x rest h = ap (λ (r : Read A). r >>= λ y. cond (test y.0) (Some y) None) (field.again x rest h.0) ∙ ap (λ (b : Bool). cond b (Some (x, rest)) None) h.1

  pub mapped_field : {B : Type 0} (f : A → B) (g : B → A) → ((x : A) → g (f x) ≡ x) → ((y : B) → f (g y) ≡ y) → IsField (mapped_at f read) (λ y. spell (g y)) (λ y. Fits (g y))
  mapped_field {B = B} f g back forth = record { taken = taken; again = again }
    where
      taken : (bytes : List ℕ) (y : B × List ℕ) → IsBytes bytes → mapped_at f read bytes ≡ Some y → (bytes ≡ spell (g y.0) ++ y.1) × Fits (g y.0)
      taken bytes y fits e =
          let a = mapped_some (λ x. (f x.0, x.1)) (read bytes) y e in
          let h = field.taken bytes a.0 fits a.1 in
          let made : (bytes ≡ spell (g (f a.0.0)) ++ a.0.1) × Fits (g (f a.0.0)) = subst (λ (x : A). (bytes ≡ spell x ++ a.0.1) × Fits x) (sym (back a.0.0)) h in
          subst (λ (y : B × List ℕ). (bytes ≡ spell (g y.0) ++ y.1) × Fits (g y.0)) a.2 made

      again : (y : B) (rest : List ℕ) → Fits (g y) → mapped_at f read (spell (g y) ++ rest) ≡ Some (y, rest)
      again y rest h = ap (λ (r : Read A). option_map (λ x. (f x.0, x.1)) r) (field.again (g y) rest h) ∙ ap (λ (z : B). Some (z, rest)) (forth y)

  pub optional_field : IsField (optional_at read) (optional spell) (λ o. IfSome o Fits)
  optional_field = record { taken = taken; again = again }
    where
      taken : (bytes : List ℕ) (x : Option A × List ℕ) → IsBytes bytes → optional_at read bytes ≡ Some x → (bytes ≡ optional spell x.0 ++ x.1) × IfSome x.0 Fits
      taken [] x fits e = absurd cc
      taken (zero ∷ bytes) x fits e = subst (λ (y : Option A × List ℕ). (0 ∷ bytes ≡ optional spell y.0 ++ y.1) × IfSome y.0 Fits) (some_is (None, bytes) x e) (refl, tt)
      taken (suc zero ∷ bytes) x fits e =
          let a = mapped_some (λ y. (Some y.0, y.1)) (read bytes) x e in
          let h = field.taken bytes a.0 (IsBytes-behind (1 ∷ []) bytes (1 ∷ bytes) fits refl) a.1 in
          subst (λ (y : Option A × List ℕ). (1 ∷ bytes ≡ optional spell y.0 ++ y.1) × IfSome y.0 Fits) a.2 (ap (λ (t : List ℕ). 1 ∷ t) h.0, h.1)
      taken (suc (suc b) ∷ bytes) x fits e = absurd cc

      again : (x : Option A) (rest : List ℕ) → IfSome x Fits → optional_at read (optional spell x ++ rest) ≡ Some (x, rest)
      again None rest h = refl
      again (Some x) rest h = ap (λ (r : Read A). option_map (λ y. (Some y.0, y.1)) r) (field.again x rest h)

  -- one field in front of others
  in_front : (x : A) (xs : List A) (rest : List ℕ) → flat_map spell (x ∷ xs) ++ rest ≡ spell x ++ (flat_map spell xs ++ rest)
  in_front x xs rest = ap (λ (t : List ℕ). t ++ rest) (flat_map-cons spell x xs) ∙ append_assoc (spell x) (flat_map spell xs) rest

  pub record AreTaken (n : ℕ) (bytes : List ℕ) (xs : List A) (rest : List ℕ) : Type 0 where
    pub parts : bytes ≡ flat_map spell xs ++ rest
    pub len : length xs ≡ n
    pub each : AllByRecursion Fits xs

  fields_taken : (n : ℕ) (bytes : List ℕ) (x : List A × List ℕ) → IsBytes bytes → fields_at read n bytes ≡ Some x → AreTaken n bytes x.0 x.1
  unfolding fields_at
  fields_taken zero bytes x fits e =
      let none : AreTaken 0 bytes [] bytes = record { parts = refl; len = refl; each = tt } in
      subst (λ (p : List A × List ℕ). AreTaken 0 bytes p.0 p.1) (some_is ([], bytes) x e) none
  fields_taken (suc n) bytes x fits e =
      let a = bind_some (read bytes) (λ first. fields_at read n first.1 >>= λ others. Some (first.0 ∷ others.0, others.1)) x e in
      let push : List A × List ℕ → Read (List A) = λ others. Some (a.0.0 ∷ others.0, others.1) in
      let b = bind_some (fields_at read n a.0.1) push x a.2 in
      let first = field.taken bytes a.0 fits a.1 in
      let others = fields_taken n a.0.1 b.0 (IsBytes-behind (spell a.0.0) a.0.1 bytes fits first.0) b.1 in
      let parts : bytes ≡ flat_map spell (a.0.0 ∷ b.0.0) ++ b.0.1 = first.0 ∙ ap (λ (t : List ℕ). spell a.0.0 ++ t) others.parts ∙ sym (in_front a.0.0 b.0.0 b.0.1) in
      let whole : AreTaken (suc n) bytes (a.0.0 ∷ b.0.0) b.0.1 = record { parts = parts; len = ap suc others.len; each = (first.1, others.each) } in
      subst (λ (p : List A × List ℕ). AreTaken (suc n) bytes p.0 p.1) (some_is (a.0.0 ∷ b.0.0, b.0.1) x b.2) whole

  fields_again : (xs : List A) (rest : List ℕ) → AllByRecursion Fits xs → fields_at read (length xs) (flat_map spell xs ++ rest) ≡ Some (xs, rest)
  unfolding fields_at
  fields_again [] rest each = refl
  fields_again (x ∷ xs) rest each =
      ap (fields_at read (suc (length xs))) (in_front x xs rest)
      ∙ ap (λ (r : Read A). r >>= λ first. fields_at read (length xs) first.1 >>= λ others. Some (first.0 ∷ others.0, others.1)) (field.again x (flat_map spell xs ++ rest) each.0)
      ∙ ap (λ (r : Read (List A)). r >>= λ others. Some (x ∷ others.0, others.1)) (fields_again xs rest each.1)

  pub listed_field : (k : ℕ) → IsWide k → IsField (listed_at k read) (listed k spell) (λ xs. (length xs < 256 ^ k) × AllByRecursion Fits xs)
  listed_field k wide = record { taken = taken; again = again }
    where
      number : IsField (number_at k) (big_bytes k) (λ n. n < 256 ^ k)
      number = number_field k wide

      taken : (bytes : List ℕ) (x : List A × List ℕ) → IsBytes bytes → listed_at k read bytes ≡ Some x → (bytes ≡ listed k spell x.0 ++ x.1) × ((length x.0 < 256 ^ k) × AllByRecursion Fits x.0)
      taken bytes x fits e =
          let a = bind_some (number_at k bytes) (λ n. fields_at read n.0 n.1) x e in
          let n = number.taken bytes a.0 fits a.1 in
          let b = fields_taken a.0.0 a.0.1 x (IsBytes-behind (big_bytes k a.0.0) a.0.1 bytes fits n.0) a.2 in
          (joined bytes a.0.1 a.0.1 (big_bytes k (length x.0)) (flat_map spell x.0) x.1 (n.0 ∙ ap (λ (m : ℕ). big_bytes k m ++ a.0.1) (sym b.len)) b.parts, (subst (λ (m : ℕ). m < 256 ^ k) (sym b.len) n.1, b.each))

      again : (xs : List A) (rest : List ℕ) → (length xs < 256 ^ k) × AllByRecursion Fits xs → listed_at k read (listed k spell xs ++ rest) ≡ Some (xs, rest)
      again xs rest h =
          ap (listed_at k read) (append_assoc (big_bytes k (length xs)) (flat_map spell xs) rest)
          ∙ ap (λ (r : Read ℕ). r >>= λ n. fields_at read n.0 n.1) (number.again (length xs) (flat_map spell xs ++ rest) h.0)
          ∙ fields_again xs rest h.1

  pub few_field : (most : ℕ) → most < 256 → IsField (few_at most read) (listed 1 spell) (λ xs. (length xs ≤ most) × AllByRecursion Fits xs)
  few_field most small = record { taken = taken; again = again }
    where
      number : IsField (number_at 1) (big_bytes 1) (λ n. n < 256 ^ 1)
      number = number_field 1 wide1

      taken : (bytes : List ℕ) (x : List A × List ℕ) → IsBytes bytes → few_at most read bytes ≡ Some x → (bytes ≡ listed 1 spell x.0 ++ x.1) × ((length x.0 ≤ most) × AllByRecursion Fits x.0)
      taken bytes x fits e =
          let a = bind_some (number_at 1 bytes) (λ n. cond (leb n.0 most) (fields_at read n.0 n.1) None) x e in
          let g = if_some (leb a.0.0 most) (fields_at read a.0.0 a.0.1) x a.2 in
          let n = number.taken bytes a.0 fits a.1 in
          let b = fields_taken a.0.0 a.0.1 x (IsBytes-behind (big_bytes 1 a.0.0) a.0.1 bytes fits n.0) g.1 in
          (joined bytes a.0.1 a.0.1 (big_bytes 1 (length x.0)) (flat_map spell x.0) x.1 (n.0 ∙ ap (λ (m : ℕ). big_bytes 1 m ++ a.0.1) (sym b.len)) b.parts, (subst (λ (m : ℕ). m ≤ most) (sym b.len) (leb-true _ _ g.0), b.each))

      again : (xs : List A) (rest : List ℕ) → (length xs ≤ most) × AllByRecursion Fits xs → few_at most read (listed 1 spell xs ++ rest) ≡ Some (xs, rest)
      again xs rest h =
          ap (few_at most read) (append_assoc (big_bytes 1 (length xs)) (flat_map spell xs) rest)
          ∙ ap (λ (r : Read ℕ). r >>= λ n. cond (leb n.0 most) (fields_at read n.0 n.1) None) (number.again (length xs) (flat_map spell xs ++ rest) (omega (arith, h.0)))
          ∙ ap (λ (b : Bool). cond b (fields_at read (length xs) (flat_map spell xs ++ rest)) None) (le-leb (length xs) most h.0)
          ∙ fields_again xs rest h.1

-- ---- one field, then another

pub pair_field : {A B : Type 0} (ra : Reader A) (rb : Reader B) (sa : A → List ℕ) (sb : B → List ℕ) (Fa : A → Type 0) (Fb : B → Type 0) → IsField ra sa Fa → IsField rb sb Fb
    → IsField (pair_at ra rb) (λ p. sa p.0 ++ sb p.1) (λ p. Fa p.0 × Fb p.1)
pair_field {A = A} {B = B} ra rb sa sb Fa Fb fa fb = record { taken = taken; again = again }
  where
    taken : (bytes : List ℕ) (x : (A × B) × List ℕ) → IsBytes bytes → pair_at ra rb bytes ≡ Some x → (bytes ≡ (sa x.0.0 ++ sb x.0.1) ++ x.1) × (Fa x.0.0 × Fb x.0.1)
    taken bytes x fits e =
        let a = bind_some (ra bytes) (λ a. rb a.1 >>= λ b. Some ((a.0, b.0), b.1)) x e in
        let both : B × List ℕ → Read (A × B) = λ b. Some ((a.0.0, b.0), b.1) in
        let b = bind_some (rb a.0.1) both x a.2 in
        let first = fa.taken bytes a.0 fits a.1 in
        let second = fb.taken a.0.1 b.0 (IsBytes-behind (sa a.0.0) a.0.1 bytes fits first.0) b.1 in
        let whole : (bytes ≡ (sa a.0.0 ++ sb b.0.0) ++ b.0.1) × (Fa a.0.0 × Fb b.0.0) = (joined bytes a.0.1 a.0.1 (sa a.0.0) (sb b.0.0) b.0.1 first.0 second.0, (first.1, second.1)) in
        subst (λ (y : (A × B) × List ℕ). (bytes ≡ (sa y.0.0 ++ sb y.0.1) ++ y.1) × (Fa y.0.0 × Fb y.0.1)) (some_is ((a.0.0, b.0.0), b.0.1) x b.2) whole

    again : (x : A × B) (rest : List ℕ) → Fa x.0 × Fb x.1 → pair_at ra rb ((sa x.0 ++ sb x.1) ++ rest) ≡ Some (x, rest)
    again x rest h =
        ap (pair_at ra rb) (append_assoc (sa x.0) (sb x.1) rest)
        ∙ ap (λ (r : Read A). r >>= λ a. rb a.1 >>= λ b. Some ((a.0, b.0), b.1)) (fa.again x.0 (sb x.1 ++ rest) h.0)
        ∙ ap (λ (r : Read B). r >>= λ b. Some ((x.0, b.0), b.1)) (fb.again x.1 rest h.1)

-- a byte that stands for a value
pub byte_field : {A : Type 0} (value : ℕ → Option A) (code : A → ℕ) → ((b : ℕ) (x : A) → value b ≡ Some x → b ≡ code x) → ((x : A) → value (code x) ≡ Some x) → IsField (byte_at value) (λ x. code x ∷ []) (λ x. Unit {0})
byte_field {A = A} value code back forth = record { taken = taken; again = again }
  where
    taken : (bytes : List ℕ) (x : A × List ℕ) → IsBytes bytes → byte_at value bytes ≡ Some x → (bytes ≡ (code x.0 ∷ []) ++ x.1) × Unit {0}
    taken [] x fits e = absurd cc
    taken (b ∷ bytes) x fits e =
        let a = mapped_some (λ y. (y, bytes)) (value b) x e in
        subst (λ (y : A × List ℕ). (b ∷ bytes ≡ (code y.0 ∷ []) ++ y.1) × Unit {0}) a.2 (ap (λ (n : ℕ). n ∷ bytes) (back b a.0 a.1), tt)

    again : (x : A) (rest : List ℕ) → Unit {0} → byte_at value ((code x ∷ []) ++ rest) ≡ Some (x, rest)
    again x rest h = ap (λ (o : Option A). option_map (λ y. (y, rest)) o) (forth x)

-- the same field, with its limits said otherwise
pub said_field : {A : Type 0} (read : Reader A) (spell : A → List ℕ) (F G : A → Type 0) → IsField read spell F → ((x : A) → F x → G x) → ((x : A) → G x → F x) → IsField read spell G
said_field read spell F G field to from = record {
  taken = λ bytes x fits e. ((field.taken bytes x fits e).0, to x.0 (field.taken bytes x fits e).1);
  again = λ x rest h. field.again x rest (from x h);
}

-- the same field, spelled otherwise
pub respelled_field : {A : Type 0} (read : Reader A) (s t : A → List ℕ) (F : A → Type 0) → IsField read s F → ((x : A) → s x ≡ t x) → IsField read t F
respelled_field read s t F field same = record {
  taken = λ bytes x fits e. ((field.taken bytes x fits e).0 ∙ ap (λ (front : List ℕ). front ++ x.1) (same x.0), (field.taken bytes x fits e).1);
  again = λ x rest h. ap (λ (front : List ℕ). read (front ++ rest)) (sym (same x)) ∙ field.again x rest h;
}
