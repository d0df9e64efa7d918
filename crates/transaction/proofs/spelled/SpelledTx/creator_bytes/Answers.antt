use Rattle.std.proofs.Common.{ℕ, ◌+◌, ap}
use Rattle.transaction.proofs.SignedPart.{creator_of_tx}
use Rattle.transaction.proofs.spelled.SpelledTx.creator_bytes.Goals as goal

pub identity_behind-requires : goal.identity_behind-requires
identity_behind-requires c =
    creator_of_tx c.self.inside.tx c.self.inside.bytes.now (1 + c.len.result + 64) c.self.invariant (ap (λ (n : ℕ). 1 + n + 64) c.len.ensures.value)
