-- That a step of today is one of the first version.
use Rattle.std.specs.Prelude.{◌≡◌, ℕ, List, Result}
use Rattle.channel.specs.Configuration.{Configuration}
use Rattle.policy_eval.specs.Accepts.{Accepts}
use Rattle.rules.specs.declared.answer.Accepted.{Accepted}
use Rattle.rules.specs.declared.answer.Refused.{Refused}
use Rattle.rules.specs.World.{World}
use Rattle.first_version.specs.Seen.{seen_channel, seen, seen_answer, IsFirst, IsNoSecond}
use Rattle.first_version.specs.Step.{Step}

-- If the world's version is 1 and the bytes don't begin with the magic of version 2: the answer and the world after it
-- are those of the first version over the same world, and that world's version is 1 too and its definitions are
-- unchanged.
abbrev pub StepsAsBefore : Configuration → Accepts → World → List ℕ → Result Accepted Refused → World → Type 0
StepsAsBefore channel accepts old bytes answer new =
    IsFirst old → IsNoSecond bytes
    → Step (seen_channel channel old.definitions) accepts (seen old) bytes (seen_answer answer) (seen new) × IsFirst new × (new.definitions ≡ old.definitions)
