-- Reading fields one after the other: what `Reading` is made of.
use Rattle.std.specs.Prelude.{ℕ, zero, suc, Bool, nat_lt, nat_le, if◌then◌else◌, List, [], ◌∷◌, length, take, drop, Option, Some, None, option_map, option_and_then}
use Rattle.byteorder.specs.Endian.{big_number}

-- a value and the bytes behind it, or none where the bytes have no such field
abbrev pub Read : Type 0 → Type 0
Read A = Option (A × List ℕ)

abbrev pub Reader : Type 0 → Type 0
Reader A = List ℕ → Read A

infixl 10 ◌>>=◌
abbrev pub ◌>>=◌ : {A B : Type 0} → Option A → (A → Option B) → Option B
o >>= f = option_and_then f o

-- so many bytes
abbrev pub bytes_at : ℕ → Reader (List ℕ)
bytes_at n bytes = if nat_lt (length bytes) n then None else Some (take n bytes, drop n bytes)

-- a number in so many bytes, the highest first
abbrev pub number_at : ℕ → Reader ℕ
number_at k bytes = if nat_lt (length bytes) k then None else Some (big_number k bytes, drop k bytes)

-- a length in k bytes, and that many bytes
abbrev pub counted_at : ℕ → Reader (List ℕ)
counted_at k bytes = number_at k bytes >>= λ n. bytes_at n.0 n.1

-- bytes that pass a test
abbrev pub tested_at : {A : Type 0} → (A → Bool) → Reader A → Reader A
tested_at test read bytes = read bytes >>= λ x. if test x.0 then Some x else None

-- one field, then another
abbrev pub pair_at : {A B : Type 0} → Reader A → Reader B → Reader (A × B)
pair_at read_a read_b bytes = read_a bytes >>= λ a. read_b a.1 >>= λ b. Some ((a.0, b.0), b.1)

-- fields seen as a value
abbrev pub mapped_at : {A B : Type 0} → (A → B) → Reader A → Reader B
mapped_at f read bytes = option_map (λ x. (f x.0, x.1)) (read bytes)

-- the values of a byte
abbrev pub byte_at : {A : Type 0} → (ℕ → Option A) → Reader A
byte_at value [] = None
byte_at value (b ∷ rest) = option_map (λ x. (x, rest)) (value b)

-- 0, or 1 and a field
abbrev pub optional_at : {A : Type 0} → Reader A → Reader (Option A)
optional_at read [] = None
optional_at read (zero ∷ rest) = Some (None, rest)
optional_at read (suc zero ∷ rest) = option_map (λ x. (Some x.0, x.1)) (read rest)
optional_at read (suc (suc b) ∷ rest) = None

-- so many fields
unfoldable pub fields_at : {A : Type 0} → Reader A → ℕ → Reader (List A)
fields_at read zero bytes = Some ([], bytes)
fields_at read (suc n) bytes = do
  first ← read bytes
  others ← fields_at read n first.1
  Some (first.0 ∷ others.0, others.1)

-- a count in k bytes, and that many fields
abbrev pub listed_at : {A : Type 0} → ℕ → Reader A → Reader (List A)
listed_at k read bytes = number_at k bytes >>= λ n. fields_at read n.0 n.1

-- a count in one byte, which is at most so many, and that many fields
abbrev pub few_at : {A : Type 0} → ℕ → Reader A → Reader (List A)
few_at most read bytes = number_at 1 bytes >>= λ n. if nat_le n.0 most then fields_at read n.0 n.1 else None
