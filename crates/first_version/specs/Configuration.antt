-- What a channel text configures.
use Rattle.std.specs.Prelude.{ℕ, List}
use Rattle.policy.specs.Policies.{Policies}

pub record Configuration : Type 0 where
  pub name : List ℕ
  pub definitions : Policies
