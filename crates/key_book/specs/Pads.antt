-- The paddings of a key, hashed once. No public contract cites this.
use Rattle.std.specs.Prelude.{ℕ, List}
use Rattle.sha2.specs.Hashers.{Holds256}
use Rattle.key_book.specs.declared.hmac.HashedPads.{HashedPads}
use Rattle.key_book.specs.Hmac.{ipad, opad, key_xor}

-- each hasher has taken the key's string with its padding
pub record AreHashedPads (key : List ℕ) (pads : HashedPads) : Type 0 where
  pub inner : Holds256 pads.inner (key_xor key ipad)
  pub outer : Holds256 pads.outer (key_xor key opad)
