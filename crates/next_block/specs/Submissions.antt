-- Blocks that are handed in with one verifier.
use Rattle.std.specs.Prelude.{ℕ, List, map}
use Rattle.policy_eval.specs.Accepts.{Accepts}
use Rattle.rules.specs.Chain.{Submission}

abbrev pub submissions : Accepts → List (List ℕ) → List Submission
submissions accepts blocks = map (λ bytes. record { bytes = bytes; accepts = accepts }) blocks
