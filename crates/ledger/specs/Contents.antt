-- What a ledger is: its channel, and its world.
use Rattle.channel.specs.Configuration.{Configuration}
use Rattle.rules.specs.World.{World}

pub record Contents : Type 0 where
  pub channel : Configuration
  pub world : World
