-- A delta whose policies of chaincodes are made before it is applied.
use Rattle.std.specs.Prelude.{◌≡◌, Option, unwrap_or}
use Rattle.policy.specs.Policies.{Policies}
use Rattle.rules.specs.declared.delta.Delta.{Delta}
use Rattle.rules.specs.Delta.{applied}
use Rattle.rules.specs.World.{World}

-- the world behind a delta, but with these policies, or else those from before
abbrev pub applied_with : World → Delta → Option Policies → World
applied_with w d made = record (applied w d) { definitions = unwrap_or made w.definitions }

-- these are the policies behind the delta, or none and they don't change
abbrev pub AreBehind : World → Delta → Option Policies → Type 0
AreBehind w d made = unwrap_or made w.definitions ≡ (applied w d).definitions
