-- What a verifier accepts.
use Rattle.std.specs.Prelude.{ℕ, List, Bool}
use Rattle.transaction.specs.declared.identity.Identity.{Identity}

-- whether a signature is one of an identity over a message: identity, message, signature
abbrev pub Accepts : Type 0
Accepts = Identity → List ℕ → List ℕ → Bool
