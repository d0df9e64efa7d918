-- The head of a key: its first bytes, by which most keys are told apart.
use Rattle.std.specs.Prelude.{ℕ, zero, suc, ◌+◌, ◌*◌, Bool, List, [], ◌∷◌, ◌++◌, length, get_or, take, drop, min, nat_le}
use Rattle.rules.specs.State.{StateKey}

-- A key as one string of bytes. As names have no byte 0, the order of these strings is that of the keys.
abbrev pub spelled : StateKey → List ℕ
spelled k = k.0 ++ 0 ∷ k.1

-- the first so many bytes, with zeros where there are fewer
abbrev pub padded : ℕ → List ℕ → List ℕ
padded zero bytes = []
padded (suc n) [] = 0 ∷ padded n []
padded (suc n) (b ∷ bytes) = b ∷ padded n bytes

-- the first 23 bytes, and how many there are, 24 being that many or more
unfoldable pub head_of : StateKey → List ℕ
head_of k = padded 23 (spelled k) ++ min (length (spelled k)) 24 ∷ []

-- the head has all bytes of its key
abbrev pub is_whole : List ℕ → Bool
is_whole head = nat_le (get_or head 23 0) 23

-- the number that the bytes spell behind n, the greatest first
abbrev pub big_endian : ℕ → List ℕ → ℕ
big_endian n [] = n
big_endian n (b ∷ bytes) = big_endian (n * 256 + b) bytes

-- eight bytes as one number
abbrev pub word_at : List ℕ → ℕ → ℕ
word_at bytes place = big_endian 0 (take 8 (drop place bytes))
