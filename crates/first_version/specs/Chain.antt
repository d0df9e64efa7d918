-- Byte strings submitted one after the other.
use Rattle.std.specs.Prelude.{◌≡◌, List, [], ◌∷◌, Result}
use Rattle.first_version.specs.Configuration.{Configuration}
use Rattle.first_version.specs.Answer.{Accepted}
use Rattle.rules.specs.declared.answer.Refused.{Refused}
use Rattle.rules.specs.Chain.{Submission}
use Rattle.first_version.specs.World.{World}
use Rattle.first_version.specs.Step.{Step}

-- From old, these submissions have these answers, one step after the other, and new is the world after them.
abbrev pub Chain : Configuration → World → List Submission → List (Result Accepted Refused) → World → Type 0
Chain channel old [] [] new = new ≡ old
Chain channel old (s ∷ submissions) (answer ∷ answers) new =
    (mid : World) × Step channel s.accepts old s.bytes answer mid × Chain channel mid submissions answers new
Chain channel old [] (answer ∷ answers) new = ⊥
Chain channel old (s ∷ submissions) [] new = ⊥
