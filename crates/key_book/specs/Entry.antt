-- An entry of a key book.
use Rattle.std.specs.Prelude.{ℕ, ◌&&◌, nat_le, Bool, List, length}
use Rattle.transaction.specs.declared.identity.Identity.{Identity}

-- an identity and the key it signs with
pub record Entry : Type 0 where
  pub identity : Identity
  pub key : List ℕ

-- the most bytes of a key
abbrev pub max_key_bytes : ℕ
max_key_bytes = 64

-- 1 to 64 bytes
abbrev pub is_key : List ℕ → Bool
is_key key = nat_le 1 (length key) && nat_le (length key) max_key_bytes
