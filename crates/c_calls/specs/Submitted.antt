-- What submitting a block does, and what the receipt has then.
use Rattle.std.specs.Prelude.{◌≡◌, ◌⊎◌, ℕ, List, Result}
use Rattle.policy_eval.specs.Accepts.{Accepts}
use Rattle.rules.specs.Step.{Step}
use Rattle.rules.specs.declared.answer.Accepted.{Accepted}
use Rattle.rules.specs.declared.answer.Refused.{Refused}
use Rattle.c_handle.specs.declared.kept.Kept.{Kept}
use Rattle.c_calls.specs.declared.codes.TheConstants.{SHARED}
use Rattle.c_calls.specs.declared.receipt.Receipt.{Receipt}
use Rattle.c_calls.specs.Receipts.{code_after, receipt_after}

-- The ledger's step over these bytes, by a verifier that accepts these signatures, and code and receipt as it answers.
pub record Submitted (accepts : Accepts) (old : Kept) (bytes : List ℕ) (new : Kept) (receipt receipt' : Receipt) (code : ℕ) : Type 0 where
  pub answer : Result Accepted Refused
  pub step : Step old.ledger.channel accepts old.ledger.world bytes answer new.ledger.world
  pub told_code : code ≡ code_after answer
  pub told_receipt : receipt' ≡ receipt_after answer receipt
  pub channel_same : new.ledger.channel ≡ old.ledger.channel
  pub keys_same : new.keys ≡ old.keys

-- This; or the ledger has another handle, and nothing changed.
abbrev pub SubmittedUnlessShared : Accepts → Kept → List ℕ → Kept → Receipt → Receipt → ℕ → Type 0
SubmittedUnlessShared accepts old bytes new receipt receipt' code =
    Submitted accepts old bytes new receipt receipt' code
    ⊎ ((code ≡ SHARED) × (new ≡ old) × (receipt' ≡ receipt))
