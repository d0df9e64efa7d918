-- What a data hasher has taken so far.
use Rattle.std.specs.Prelude.{ℕ, List}
use Rattle.sha2.specs.Hashers.{Holds256}
use Rattle.header_hash.specs.declared.data_hasher.DataHasher.{DataHasher}

-- the hasher has taken these bytes, the transactions one after the other
abbrev pub Holds : DataHasher → List ℕ → Type 0
Holds hasher bytes = Holds256 hasher.hasher bytes
