-- HMAC (RFC 2104) over SHA-256, whose blocks have B = 64 bytes, for keys of 1 to B bytes. Section numbers are the RFC's.
use Rattle.std.specs.Prelude.{ℕ, ◌-◌, List, ◌++◌, length, map, replicate, bit_xor}
use Rattle.sha2.specs.Sha256.{sha256}

-- the byte that the string ipad repeats B times (2)
abbrev pub ipad : ℕ
ipad = 0x36

-- the byte that the string opad repeats B times (2)
abbrev pub opad : ℕ
opad = 0x5c

-- zero bytes at the end of K make it a string of B bytes (2, step 1)
abbrev pub padded_key : List ℕ → List ℕ
padded_key key = key ++ replicate (64 - length key) 0

-- that string XOR ipad or XOR opad, each byte (2, steps 2 and 5)
abbrev pub key_xor : List ℕ → ℕ → List ℕ
key_xor key pad = map (λ b. bit_xor b pad) (padded_key key)

-- H(K XOR opad, H(K XOR ipad, text)) (2)
abbrev pub hmac : List ℕ → List ℕ → List ℕ
hmac key text = sha256 (key_xor key opad ++ sha256 (key_xor key ipad ++ text))
