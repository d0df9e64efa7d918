-- Strings of bytes that are handed in one after the other.
use Rattle.std.specs.Prelude.{◌≡◌, ℕ, max, List, [], ◌∷◌, Result, Ok, Err, IsSome}
use Rattle.ledger.specs.Contents.{Contents}
use Rattle.policy_eval.specs.Accepts.{Accepts}
use Rattle.rules.specs.declared.answer.Accepted.{Accepted}
use Rattle.rules.specs.declared.answer.Refused.{Refused}
use Rattle.rules.specs.Step.{Step}
use Rattle.cli_lines.specs.BlockLines.{refusal_of}

-- From old, each of these strings made something of what was there, in their order, and new is there behind them. The process ends
-- with the worst of what it ends with for each, and before them.
abbrev pub AreTaken : {T : Type 0} → (T → List ℕ → ℕ → T → Type 0) → T → ℕ → List (List ℕ) → ℕ → T → Type 0
AreTaken Takes old before [] status new = (new ≡ old) × (status ≡ before)
AreTaken {T} Takes old before (bytes ∷ more) status new = (mid : T) × (one : ℕ) × Takes old bytes one mid × AreTaken Takes mid (max before one) more status new

-- the process's status for this answer, if all other blocks are accepted; out of memory has none
abbrev pub EndsWith : Result Accepted Refused → ℕ → Type 0
EndsWith (Ok accepted) status = status ≡ 0
EndsWith (Err refused) status = IsSome (refusal_of refused) × (status ≡ 1)

-- what a string makes of a ledger
abbrev pub LedgerTakes : Accepts → Contents → List ℕ → ℕ → Contents → Type 0
LedgerTakes accepts old bytes status new =
    (answer : Result Accepted Refused) × Step old.channel accepts old.world bytes answer new.world × (new.channel ≡ old.channel) × EndsWith answer status
