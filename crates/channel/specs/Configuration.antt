-- What a channel text configures.
use Rattle.std.specs.Prelude.{ℕ, ◌≤◌, List, Option}
use Rattle.std.specs.FinMap.{len}
use Rattle.policy.specs.Tree.{Tree}
use Rattle.policy.specs.Policies.{Policies}

-- the channel's name, and the policies of its chaincodes
pub record Configuration : Type 0 where
  pub name : List ℕ
  pub definitions : Policies
  -- whose signatures an update of a chaincode's policy needs; if there is none, no policy is ever updated
  pub admin : Option Tree

-- the most chaincodes of a channel
abbrev pub max_chaincodes : ℕ
max_chaincodes = 256

abbrev pub AreFew : Policies → Type 0
AreFew definitions = len definitions ≤ max_chaincodes
