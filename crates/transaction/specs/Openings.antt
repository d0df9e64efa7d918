-- What the bodies of transactions and of updates of definitions begin with.
use Rattle.std.specs.Prelude.{◌≡◌, ℕ, ◌^◌, ◌<◌, List, ◌++◌, length, IsTrue}
use Rattle.values.specs.Name.{is_name}
use Rattle.transaction.specs.declared.identity.Identity.{Identity}
use Rattle.transaction.specs.declared.opening.OpeningFields.{OpeningFields}
use Rattle.transaction.specs.Limits.{id_bytes}
use Rattle.transaction.specs.Combined.{Reader, bytes_at, counted_at, pair_at}
use Rattle.transaction.specs.Grammar.{counted, identity_bytes, IsIdentity}
use Rattle.transaction.specs.Reading.{name_at, identity_at}

-- channel, id, creator, nonce
abbrev pub Opening : Type 0
Opening = List ℕ × (List ℕ × (Identity × List ℕ))

abbrev pub opening_bytes : Opening → List ℕ
opening_bytes o = counted 1 o.0 ++ (o.1.0 ++ (identity_bytes o.1.1.0 ++ counted 1 o.1.1.1))

pub record IsOpening (o : Opening) : Type 0 where
  pub channel : IsTrue (is_name o.0)
  pub id : length o.1.0 ≡ id_bytes
  pub creator : IsIdentity o.1.1.0
  pub nonce : length o.1.1.1 < 2 ^ 8

unfoldable pub opening_at : Reader Opening
opening_at bytes = pair_at name_at (pair_at (bytes_at id_bytes) (pair_at identity_at (counted_at 1))) bytes

-- what a contract sees of the fields; no public contract cites it
abbrev pub opening_fields : OpeningFields → Opening
opening_fields o = (o.channel, (o.id, (o.creator, o.nonce)))
