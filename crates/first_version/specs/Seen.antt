-- What the first version sees of a world of today, and of its answers.
use Rattle.std.specs.Prelude.{◌≡◌, ◌≢◌, ℕ, List, ◌++◌, map, Result, Ok, Err}
use Rattle.transaction.specs.declared.block_version.BlockVersion.TheVariants.{V1, V2}
use Rattle.block.specs.Grammar.{magic_of}
use Rattle.policy.specs.Policies.{Policies}
use Rattle.channel.specs.Configuration as channel
use Rattle.rules.specs.declared.answer.Accepted as now
use Rattle.rules.specs.declared.answer.Refused.{Refused}
use Rattle.rules.specs.declared.committed.CommittedBlock as kept
use Rattle.rules.specs.World as world
use Rattle.first_version.specs.Configuration.{Configuration}
use Rattle.first_version.specs.Answer.{CommittedBlock, Accepted}
use Rattle.first_version.specs.World.{World}

-- a channel, with the definitions of a world
abbrev pub seen_channel : channel.Configuration → Policies → Configuration
seen_channel c definitions = record { name = c.name; definitions = definitions }

abbrev pub seen_block : kept.CommittedBlock → CommittedBlock
seen_block b = record { bytes = b.bytes; header_hash = b.header_hash; flags = b.flags }

abbrev pub seen : world.World → World
seen w = record { state = w.state; history = w.history; first_uses = w.first_uses; blocks = map seen_block w.blocks }

abbrev pub seen_answer : Result now.Accepted Refused → Result Accepted Refused
seen_answer (Ok a) = Ok (record { number = a.number; header_hash = a.header_hash; flags = a.flags })
seen_answer (Err r) = Err r

-- the world's version is 1
abbrev pub IsFirst : world.World → Type 0
IsFirst w = world.last_version w ≡ V1

-- the bytes don't begin with the magic of version 2
abbrev pub IsNoSecond : List ℕ → Type 0
IsNoSecond bytes = (rest : List ℕ) → bytes ≢ magic_of V2 ++ rest
