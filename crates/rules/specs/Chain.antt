-- Strings of bytes handed in one after the other.
use Rattle.std.specs.Prelude.{◌≡◌, ℕ, List, [], ◌∷◌, Result}
use Rattle.channel.specs.Configuration.{Configuration}
use Rattle.policy_eval.specs.Accepts.{Accepts}
use Rattle.rules.specs.declared.answer.Accepted.{Accepted}
use Rattle.rules.specs.declared.answer.Refused.{Refused}
use Rattle.rules.specs.World.{World}
use Rattle.rules.specs.Step.{Step}

-- a string of bytes, with the verifier that was handed in beside it
pub record Submission : Type 0 where
  pub bytes : List ℕ
  pub accepts : Accepts

-- From old, these submissions have these answers, one step after the other, and new is the world after them.
abbrev pub Chain : Configuration → World → List Submission → List (Result Accepted Refused) → World → Type 0
Chain channel old [] [] new = new ≡ old
Chain channel old (s ∷ submissions) (answer ∷ answers) new =
    (mid : World) × Step channel s.accepts old s.bytes answer mid × Chain channel mid submissions answers new
Chain channel old [] (answer ∷ answers) new = ⊥
Chain channel old (s ∷ submissions) [] new = ⊥
