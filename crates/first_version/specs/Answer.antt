-- A block as it is kept, and what is returned for one that is accepted.
use Rattle.std.specs.Prelude.{ℕ, List}
use Rattle.rules.specs.declared.flag.Flag.{Flag}

pub record CommittedBlock : Type 0 where
  pub bytes : List ℕ
  pub header_hash : List ℕ
  pub flags : List Flag

pub record Accepted : Type 0 where
  pub number : ℕ
  pub header_hash : List ℕ
  pub flags : List Flag
