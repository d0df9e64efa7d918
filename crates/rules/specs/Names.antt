-- Which chaincodes have a definition, which no block changes.
use Rattle.std.specs.Prelude.{◌≡◌, ℕ, List}
use Rattle.channel.specs.Configuration.{Configuration}
use Rattle.rules.specs.Candidate.{is_defined}
use Rattle.rules.specs.World.{World}

-- the chaincodes that have a policy in the world are those that have one in the channel
abbrev pub HasNamesOf : Configuration → World → Type 0
HasNamesOf channel w = (chaincode : List ℕ) → is_defined w.definitions chaincode ≡ is_defined channel.definitions chaincode
